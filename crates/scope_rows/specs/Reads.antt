-- Small programs, and where their reads lead. Expected values
-- are those of Python's `symtable` and `ast`; tools/scope_choice.py writes this file.
use Rattle.tree_nodes.specs.declared.kind.Kind.TheVariants as kinds
use Rattle.std.specs.Prelude.{◌≡◌, [], ◌∷◌, codes}
use Rattle.tree_nodes.specs.Trees.{none, tree, Tree}
use Rattle.scope_rules.specs.declared.scope.Where.TheVariants.{Local, Free, Global, Builtin}
use Rattle.scope_rows.specs.Questions.{plain, named, reads, leads}
use Rattle.scope_rows.specs.Names.{program20}

-- def f(*a: a):
--     pass
abbrev pub program8 : Tree
program8 = record { node = plain kinds.Module; kids = (tree (named kinds.FunctionDef (codes "f")) (tree (named kinds.StarParameter (codes "a")) (tree (plain kinds.Annotation) (tree (named kinds.Name (codes "a")) none none) none) (tree (plain kinds.Pass) none none)) none) }

abbrev pub Row8 : Type 0
Row8 = reads program8 ≡ []

-- def f(**a: a):
--     pass
abbrev pub program9 : Tree
program9 = record { node = plain kinds.Module; kids = (tree (named kinds.FunctionDef (codes "f")) (tree (named kinds.DoubleStarParameter (codes "a")) (tree (plain kinds.Annotation) (tree (named kinds.Name (codes "a")) none none) none) (tree (plain kinds.Pass) none none)) none) }

abbrev pub Row9 : Type 0
Row9 = reads program9 ≡ []

-- def f(a) -> a:
--     pass
abbrev pub program10 : Tree
program10 = record { node = plain kinds.Module; kids = (tree (named kinds.FunctionDef (codes "f")) (tree (named kinds.Parameter (codes "a")) none (tree (plain kinds.Annotation) (tree (named kinds.Name (codes "a")) none none) (tree (plain kinds.Pass) none none))) none) }

abbrev pub Row10 : Type 0
Row10 = reads program10 ≡ []

-- lambda a=a, *, b=b: a
abbrev pub program11 : Tree
program11 = record { node = plain kinds.Module; kids = (tree (plain kinds.ExpressionStatement) (tree (plain kinds.Lambda) (tree (named kinds.Parameter (codes "a")) (tree (named kinds.Name (codes "a")) none none) (tree (plain kinds.KeywordOnlyMark) none (tree (named kinds.KeywordOnlyParameter (codes "b")) (tree (named kinds.Name (codes "b")) none none) (tree (named kinds.Name (codes "a")) none none)))) none) none) }

abbrev pub Row11 : Type 0
Row11 = reads program11 ≡ leads 8 (Local (record { 0 = 2 })) ∷ []

-- @a
-- async def f(a):
--     await a
abbrev pub program12 : Tree
program12 = record { node = plain kinds.Module; kids = (tree (named kinds.AsyncFunctionDef (codes "f")) (tree (plain kinds.Decorator) (tree (named kinds.Name (codes "a")) none none) (tree (named kinds.Parameter (codes "a")) none (tree (plain kinds.ExpressionStatement) (tree (plain kinds.Await) (tree (named kinds.Name (codes "a")) none none) none) none))) none) }

abbrev pub Row12 : Type 0
Row12 = reads program12 ≡ leads 7 (Local (record { 0 = 1 })) ∷ []

-- def f(a):
--     return (a for a in a if a)
abbrev pub program13 : Tree
program13 = record { node = plain kinds.Module; kids = (tree (named kinds.FunctionDef (codes "f")) (tree (named kinds.Parameter (codes "a")) none (tree (plain kinds.Return) (tree (plain kinds.GeneratorExpression) (tree (named kinds.Name (codes "a")) none (tree (plain kinds.ComprehensionFor) (tree (named kinds.NameTarget (codes "a")) none (tree (named kinds.Name (codes "a")) none (tree (named kinds.Name (codes "a")) none none))) none)) none) none)) none) }

abbrev pub Row13 : Type 0
Row13 = reads program13 ≡ leads 5 (Local (record { 0 = 4 })) ∷ leads 8 (Local (record { 0 = 1 })) ∷ leads 9 (Local (record { 0 = 4 })) ∷ []

abbrev pub Row20 : Type 0
Row20 = reads program20 ≡ []

-- a = 1
-- def f(a):
--     def g():
--         global a
--         def h():
--             return a
abbrev pub program35 : Tree
program35 = record { node = plain kinds.Module; kids = (tree (plain kinds.Assign) (tree (named kinds.NameTarget (codes "a")) none (tree (named kinds.NumberLiteral (codes "1")) none none)) (tree (named kinds.FunctionDef (codes "f")) (tree (named kinds.Parameter (codes "a")) none (tree (named kinds.FunctionDef (codes "g")) (tree (plain kinds.Global) (tree (named kinds.DeclaredName (codes "a")) none none) (tree (named kinds.FunctionDef (codes "h")) (tree (plain kinds.Return) (tree (named kinds.Name (codes "a")) none none) none) none)) none)) none)) }

abbrev pub Row35 : Type 0
Row35 = reads program35 ≡ leads 11 Global ∷ []

-- def f(a):
--     class C:
--         global a
--         b = a
abbrev pub program36 : Tree
program36 = record { node = plain kinds.Module; kids = (tree (named kinds.FunctionDef (codes "f")) (tree (named kinds.Parameter (codes "a")) none (tree (named kinds.ClassDef (codes "C")) (tree (plain kinds.Global) (tree (named kinds.DeclaredName (codes "a")) none none) (tree (plain kinds.Assign) (tree (named kinds.NameTarget (codes "b")) none (tree (named kinds.Name (codes "a")) none none)) none)) none)) none) }

abbrev pub Row36 : Type 0
Row36 = reads program36 ≡ []

-- def f(a):
--     class C:
--         global a
--         def m(self):
--             return a
abbrev pub program37 : Tree
program37 = record { node = plain kinds.Module; kids = (tree (named kinds.FunctionDef (codes "f")) (tree (named kinds.Parameter (codes "a")) none (tree (named kinds.ClassDef (codes "C")) (tree (plain kinds.Global) (tree (named kinds.DeclaredName (codes "a")) none none) (tree (named kinds.FunctionDef (codes "m")) (tree (named kinds.Parameter (codes "self")) none (tree (plain kinds.Return) (tree (named kinds.Name (codes "a")) none none) none)) none)) none)) none) }

abbrev pub Row37 : Type 0
Row37 = reads program37 ≡ leads 9 (Free (record { 0 = 1 })) ∷ []

-- print, __name__, ____, _____, __a
abbrev pub program38 : Tree
program38 = record { node = plain kinds.Module; kids = (tree (plain kinds.ExpressionStatement) (tree (plain kinds.Tuple) (tree (named kinds.Name (codes "print")) none (tree (named kinds.Name (codes "__name__")) none (tree (named kinds.Name (codes "____")) none (tree (named kinds.Name (codes "_____")) none (tree (named kinds.Name (codes "__a")) none none))))) none) none) }

abbrev pub Row38 : Type 0
Row38 = reads program38 ≡ leads 3 Builtin ∷ leads 4 Builtin ∷ leads 6 Builtin ∷ []

-- x: y
-- def f():
--     return x
abbrev pub program39 : Tree
program39 = record { node = plain kinds.Module; kids = (tree (plain kinds.AnnAssign) (tree (named kinds.NameTarget (codes "x")) none (tree (plain kinds.Annotation) (tree (named kinds.Name (codes "y")) none none) none)) (tree (named kinds.FunctionDef (codes "f")) (tree (plain kinds.Return) (tree (named kinds.Name (codes "x")) none none) none) none)) }

abbrev pub Row39 : Type 0
Row39 = reads program39 ≡ leads 7 Global ∷ []

-- match a:
--     case 1 as b:
--         b
--     case C(d, e=f):
--         d
abbrev pub program41 : Tree
program41 = record { node = plain kinds.Module; kids = (tree (plain kinds.Match) (tree (named kinds.Name (codes "a")) none (tree (plain kinds.Case) (tree (named kinds.MatchAs (codes "b")) (tree (plain kinds.MatchValue) (tree (named kinds.NumberLiteral (codes "1")) none none) none) (tree (plain kinds.ExpressionStatement) (tree (named kinds.Name (codes "b")) none none) none)) (tree (plain kinds.Case) (tree (plain kinds.MatchClass) (tree (named kinds.Name (codes "C")) none (tree (named kinds.MatchCapture (codes "d")) none (tree (named kinds.MatchKeyword (codes "e")) (tree (named kinds.MatchCapture (codes "f")) none none) none))) (tree (plain kinds.ExpressionStatement) (tree (named kinds.Name (codes "d")) none none) none)) none))) none) }

abbrev pub Row41 : Type 0
Row41 = reads program41 ≡ leads 8 Global ∷ leads 16 Global ∷ []

-- def f():
--     return [a for b in c if (a := b)]
abbrev pub program43 : Tree
program43 = record { node = plain kinds.Module; kids = (tree (named kinds.FunctionDef (codes "f")) (tree (plain kinds.Return) (tree (plain kinds.ListComprehension) (tree (named kinds.Name (codes "a")) none (tree (plain kinds.ComprehensionFor) (tree (named kinds.NameTarget (codes "b")) none (tree (named kinds.Name (codes "c")) none (tree (named kinds.NamedExpression (codes "a")) (tree (named kinds.Name (codes "b")) none none) none))) none)) none) none) none) }

abbrev pub Row43 : Type 0
Row43 = reads program43 ≡ leads 4 (Local (record { 0 = 1 })) ∷ leads 9 (Local (record { 0 = 3 })) ∷ []

-- a__bc, __abc, abc__, __a__
abbrev pub program45 : Tree
program45 = record { node = plain kinds.Module; kids = (tree (plain kinds.ExpressionStatement) (tree (plain kinds.Tuple) (tree (named kinds.Name (codes "a__bc")) none (tree (named kinds.Name (codes "__abc")) none (tree (named kinds.Name (codes "abc__")) none (tree (named kinds.Name (codes "__a__")) none none)))) none) none) }

abbrev pub Row45 : Type 0
Row45 = reads program45 ≡ leads 6 Builtin ∷ []

-- all of them
pub record ReadsHold : Type 0 where
  pub row8 : Row8
  pub row9 : Row9
  pub row10 : Row10
  pub row11 : Row11
  pub row12 : Row12
  pub row13 : Row13
  pub row20 : Row20
  pub row35 : Row35
  pub row36 : Row36
  pub row37 : Row37
  pub row38 : Row38
  pub row39 : Row39
  pub row41 : Row41
  pub row43 : Row43
  pub row45 : Row45
