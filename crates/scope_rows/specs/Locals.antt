-- Small programs, and the names that are local to each of their scopes. Expected values
-- are those of Python's `symtable` and `ast`; tools/scope_choice.py writes this file.
use Rattle.tree_nodes.specs.declared.kind.Kind.TheVariants as kinds
use Rattle.std.specs.Prelude.{◌≡◌, [], ◌∷◌, codes}
use Rattle.tree_nodes.specs.Trees.{none, tree, Tree}
use Rattle.scope_rows.specs.Questions.{plain, named, locals}

-- class C:
--     global a
--     del b
--     import c
--     from m import d
abbrev pub program3 : Tree
program3 = record { node = plain kinds.Module; kids = (tree (named kinds.ClassDef (codes "C")) (tree (plain kinds.Global) (tree (named kinds.DeclaredName (codes "a")) none none) (tree (plain kinds.Delete) (tree (named kinds.NameTarget (codes "b")) none none) (tree (plain kinds.Import) (tree (named kinds.Alias (codes "c")) none none) (tree (named kinds.ImportFrom (codes "m")) (tree (named kinds.Alias (codes "d")) none none) none)))) none) }

abbrev pub Row3 : Type 0
Row3 = locals program3 ((codes "C") ∷ (codes "a") ∷ (codes "b") ∷ (codes "c") ∷ (codes "d") ∷ []) ≡ ((codes "C") ∷ []) ∷ ((codes "b") ∷ (codes "c") ∷ (codes "d") ∷ []) ∷ []

-- def f(a):
--     class C:
--         nonlocal a
--         a = b
abbrev pub program4 : Tree
program4 = record { node = plain kinds.Module; kids = (tree (named kinds.FunctionDef (codes "f")) (tree (named kinds.Parameter (codes "a")) none (tree (named kinds.ClassDef (codes "C")) (tree (plain kinds.Nonlocal) (tree (named kinds.DeclaredName (codes "a")) none none) (tree (plain kinds.Assign) (tree (named kinds.NameTarget (codes "a")) none (tree (named kinds.Name (codes "b")) none none)) none)) none)) none) }

abbrev pub Row4 : Type 0
Row4 = locals program4 ((codes "C") ∷ (codes "a") ∷ (codes "b") ∷ (codes "f") ∷ []) ≡ ((codes "f") ∷ []) ∷ ((codes "C") ∷ (codes "a") ∷ []) ∷ [] ∷ []

-- class C:
--     with a as b:
--         pass
--     match c:
--         case d:
--             e
abbrev pub program6 : Tree
program6 = record { node = plain kinds.Module; kids = (tree (named kinds.ClassDef (codes "C")) (tree (plain kinds.With) (tree (plain kinds.WithItem) (tree (named kinds.Name (codes "a")) none (tree (named kinds.NameTarget (codes "b")) none none)) (tree (plain kinds.Pass) none none)) (tree (plain kinds.Match) (tree (named kinds.Name (codes "c")) none (tree (plain kinds.Case) (tree (named kinds.MatchCapture (codes "d")) none (tree (plain kinds.ExpressionStatement) (tree (named kinds.Name (codes "e")) none none) none)) none)) none)) none) }

abbrev pub Row6 : Type 0
Row6 = locals program6 ((codes "C") ∷ (codes "a") ∷ (codes "b") ∷ (codes "c") ∷ (codes "d") ∷ (codes "e") ∷ []) ≡ ((codes "C") ∷ []) ∷ ((codes "b") ∷ (codes "d") ∷ []) ∷ []

-- async def f():
--     class C:
--         async for a in b:
--             pass
--         async with c as d:
--             pass
abbrev pub program7 : Tree
program7 = record { node = plain kinds.Module; kids = (tree (named kinds.AsyncFunctionDef (codes "f")) (tree (named kinds.ClassDef (codes "C")) (tree (plain kinds.AsyncFor) (tree (named kinds.NameTarget (codes "a")) none (tree (named kinds.Name (codes "b")) none (tree (plain kinds.Pass) none none))) (tree (plain kinds.AsyncWith) (tree (plain kinds.WithItem) (tree (named kinds.Name (codes "c")) none (tree (named kinds.NameTarget (codes "d")) none none)) (tree (plain kinds.Pass) none none)) none)) none) none) }

abbrev pub Row7 : Type 0
Row7 = locals program7 ((codes "C") ∷ (codes "a") ∷ (codes "b") ∷ (codes "c") ∷ (codes "d") ∷ (codes "f") ∷ []) ≡ ((codes "f") ∷ []) ∷ ((codes "C") ∷ []) ∷ ((codes "a") ∷ (codes "d") ∷ []) ∷ []

-- def f(b):
--     {(x := c) for c in b}
abbrev pub program14 : Tree
program14 = record { node = plain kinds.Module; kids = (tree (named kinds.FunctionDef (codes "f")) (tree (named kinds.Parameter (codes "b")) none (tree (plain kinds.ExpressionStatement) (tree (plain kinds.SetComprehension) (tree (named kinds.NamedExpression (codes "x")) (tree (named kinds.Name (codes "c")) none none) (tree (plain kinds.ComprehensionFor) (tree (named kinds.NameTarget (codes "c")) none (tree (named kinds.Name (codes "b")) none none)) none)) none) none)) none) }

abbrev pub Row14 : Type 0
Row14 = locals program14 ((codes "b") ∷ (codes "c") ∷ (codes "f") ∷ (codes "x") ∷ []) ≡ ((codes "f") ∷ []) ∷ ((codes "b") ∷ (codes "x") ∷ []) ∷ ((codes "c") ∷ []) ∷ []

-- [(x := c) for c in b]
abbrev pub program16 : Tree
program16 = record { node = plain kinds.Module; kids = (tree (plain kinds.ExpressionStatement) (tree (plain kinds.ListComprehension) (tree (named kinds.NamedExpression (codes "x")) (tree (named kinds.Name (codes "c")) none none) (tree (plain kinds.ComprehensionFor) (tree (named kinds.NameTarget (codes "c")) none (tree (named kinds.Name (codes "b")) none none)) none)) none) none) }

abbrev pub Row16 : Type 0
Row16 = locals program16 ((codes "b") ∷ (codes "c") ∷ (codes "x") ∷ []) ≡ ((codes "x") ∷ []) ∷ ((codes "c") ∷ []) ∷ []

-- class C:
--     def __f(__p, *__q, __r, **__s):
--         pass
abbrev pub program18 : Tree
program18 = record { node = plain kinds.Module; kids = (tree (named kinds.ClassDef (codes "C")) (tree (named kinds.FunctionDef (codes "__f")) (tree (named kinds.Parameter (codes "__p")) none (tree (named kinds.StarParameter (codes "__q")) none (tree (named kinds.KeywordOnlyParameter (codes "__r")) none (tree (named kinds.DoubleStarParameter (codes "__s")) none (tree (plain kinds.Pass) none none))))) none) none) }

abbrev pub Row18 : Type 0
Row18 = locals program18 ((codes "C") ∷ (codes "_C__f") ∷ (codes "_C__p") ∷ (codes "_C__q") ∷ (codes "_C__r") ∷ (codes "_C__s") ∷ []) ≡ ((codes "C") ∷ []) ∷ ((codes "_C__f") ∷ []) ∷ ((codes "_C__p") ∷ (codes "_C__q") ∷ (codes "_C__r") ∷ (codes "_C__s") ∷ []) ∷ []

-- class C:
--     try:
--         pass
--     except E as __e:
--         pass
abbrev pub program22 : Tree
program22 = record { node = plain kinds.Module; kids = (tree (named kinds.ClassDef (codes "C")) (tree (plain kinds.Try) (tree (plain kinds.Pass) none (tree (plain kinds.ExceptHandler) (tree (named kinds.Name (codes "E")) none (tree (named kinds.AsName (codes "__e")) none (tree (plain kinds.Pass) none none))) none)) none) none) }

abbrev pub Row22 : Type 0
Row22 = locals program22 ((codes "C") ∷ (codes "E") ∷ (codes "_C__e") ∷ []) ≡ ((codes "C") ∷ []) ∷ ((codes "_C__e") ∷ []) ∷ []

-- match a:
--     case [b, *c]:
--         pass
--     case {1: d, **e}:
--         pass
abbrev pub program40 : Tree
program40 = record { node = plain kinds.Module; kids = (tree (plain kinds.Match) (tree (named kinds.Name (codes "a")) none (tree (plain kinds.Case) (tree (plain kinds.MatchSequence) (tree (named kinds.MatchCapture (codes "b")) none (tree (named kinds.MatchStar (codes "c")) none none)) (tree (plain kinds.Pass) none none)) (tree (plain kinds.Case) (tree (plain kinds.MatchMapping) (tree (plain kinds.MatchItem) (tree (named kinds.NumberLiteral (codes "1")) none (tree (named kinds.MatchCapture (codes "d")) none none)) (tree (named kinds.MatchRest (codes "e")) none none)) (tree (plain kinds.Pass) none none)) none))) none) }

abbrev pub Row40 : Type 0
Row40 = locals program40 ((codes "a") ∷ (codes "b") ∷ (codes "c") ∷ (codes "d") ∷ (codes "e") ∷ []) ≡ ((codes "b") ∷ (codes "c") ∷ (codes "d") ∷ (codes "e") ∷ []) ∷ []

-- class C:
--     global a
--     def a():
--         pass
abbrev pub program42 : Tree
program42 = record { node = plain kinds.Module; kids = (tree (named kinds.ClassDef (codes "C")) (tree (plain kinds.Global) (tree (named kinds.DeclaredName (codes "a")) none none) (tree (named kinds.FunctionDef (codes "a")) (tree (plain kinds.Pass) none none) none)) none) }

abbrev pub Row42 : Type 0
Row42 = locals program42 ((codes "C") ∷ (codes "a") ∷ []) ≡ ((codes "C") ∷ (codes "a") ∷ []) ∷ [] ∷ [] ∷ []

-- all of them
pub record LocalsHold : Type 0 where
  pub row3 : Row3
  pub row4 : Row4
  pub row6 : Row6
  pub row7 : Row7
  pub row14 : Row14
  pub row16 : Row16
  pub row18 : Row18
  pub row22 : Row22
  pub row40 : Row40
  pub row42 : Row42
