-- Names of small programs, and how they are read where they stand. Expected values
-- are those of Python's `symtable` and `ast`; tools/scope_choice.py writes this file.
use Rattle.tree_nodes.specs.declared.kind.Kind.TheVariants as kinds
use Rattle.std.specs.Prelude.{◌≡◌, [], ◌∷◌, codes}
use Rattle.tree_nodes.specs.Trees.{none, tree, Tree}
use Rattle.scope_rows.specs.Questions.{plain, named, spellings, read}

-- class C:
--     __a = __b
--     c.__d = c.__e
abbrev pub program17 : Tree
program17 = record { node = plain kinds.Module; kids = (tree (named kinds.ClassDef (codes "C")) (tree (plain kinds.Assign) (tree (named kinds.NameTarget (codes "__a")) none (tree (named kinds.Name (codes "__b")) none none)) (tree (plain kinds.Assign) (tree (named kinds.AttributeTarget (codes "__d")) (tree (named kinds.Name (codes "c")) none none) (tree (named kinds.Attribute (codes "__e")) (tree (named kinds.Name (codes "c")) none none) none)) none)) none) }

abbrev pub Row17 : Type 0
Row17 = spellings program17 ≡ read 1 (codes "C") ∷ read 3 (codes "_C__a") ∷ read 4 (codes "_C__b") ∷ read 6 (codes "_C__d") ∷ read 7 (codes "c") ∷ read 8 (codes "_C__e") ∷ read 9 (codes "c") ∷ []

-- class C:
--     async def __f():
--         global __g
--         __g = 1
abbrev pub program19 : Tree
program19 = record { node = plain kinds.Module; kids = (tree (named kinds.ClassDef (codes "C")) (tree (named kinds.AsyncFunctionDef (codes "__f")) (tree (plain kinds.Global) (tree (named kinds.DeclaredName (codes "__g")) none none) (tree (plain kinds.Assign) (tree (named kinds.NameTarget (codes "__g")) none (tree (named kinds.NumberLiteral (codes "1")) none none)) none)) none) none) }

abbrev pub Row19 : Type 0
Row19 = spellings program19 ≡ read 1 (codes "C") ∷ read 2 (codes "_C__f") ∷ read 4 (codes "_C__g") ∷ read 6 (codes "_C__g") ∷ read 7 (codes "1") ∷ []

-- class C:
--     class __D(__E):
--         __f = 1
abbrev pub program20 : Tree
program20 = record { node = plain kinds.Module; kids = (tree (named kinds.ClassDef (codes "C")) (tree (named kinds.ClassDef (codes "__D")) (tree (named kinds.Name (codes "__E")) none (tree (plain kinds.Assign) (tree (named kinds.NameTarget (codes "__f")) none (tree (named kinds.NumberLiteral (codes "1")) none none)) none)) none) none) }

abbrev pub Row20 : Type 0
Row20 = spellings program20 ≡ read 1 (codes "C") ∷ read 2 (codes "_C__D") ∷ read 3 (codes "_C__E") ∷ read 5 (codes "_D__f") ∷ read 6 (codes "1") ∷ []

-- class C:
--     f(__a=1)
--     (__w := 1)
abbrev pub program23 : Tree
program23 = record { node = plain kinds.Module; kids = (tree (named kinds.ClassDef (codes "C")) (tree (plain kinds.ExpressionStatement) (tree (plain kinds.Call) (tree (named kinds.Name (codes "f")) none (tree (named kinds.KeywordArgument (codes "__a")) (tree (named kinds.NumberLiteral (codes "1")) none none) none)) none) (tree (plain kinds.ExpressionStatement) (tree (named kinds.NamedExpression (codes "__w")) (tree (named kinds.NumberLiteral (codes "1")) none none) none) none)) none) }

abbrev pub Row23 : Type 0
Row23 = spellings program23 ≡ read 1 (codes "C") ∷ read 4 (codes "f") ∷ read 5 (codes "__a") ∷ read 6 (codes "1") ∷ read 8 (codes "_C__w") ∷ read 9 (codes "1") ∷ []

-- class C:
--     match a:
--         case [__m, *__n]:
--             pass
--         case {1: 2, **__r}:
--             pass
--         case 3 as __x:
--             pass
abbrev pub program24 : Tree
program24 = record { node = plain kinds.Module; kids = (tree (named kinds.ClassDef (codes "C")) (tree (plain kinds.Match) (tree (named kinds.Name (codes "a")) none (tree (plain kinds.Case) (tree (plain kinds.MatchSequence) (tree (named kinds.MatchCapture (codes "__m")) none (tree (named kinds.MatchStar (codes "__n")) none none)) (tree (plain kinds.Pass) none none)) (tree (plain kinds.Case) (tree (plain kinds.MatchMapping) (tree (plain kinds.MatchItem) (tree (named kinds.NumberLiteral (codes "1")) none (tree (plain kinds.MatchValue) (tree (named kinds.NumberLiteral (codes "2")) none none) none)) (tree (named kinds.MatchRest (codes "__r")) none none)) (tree (plain kinds.Pass) none none)) (tree (plain kinds.Case) (tree (named kinds.MatchAs (codes "__x")) (tree (plain kinds.MatchValue) (tree (named kinds.NumberLiteral (codes "3")) none none) none) (tree (plain kinds.Pass) none none)) none)))) none) none) }

abbrev pub Row24 : Type 0
Row24 = spellings program24 ≡ read 1 (codes "C") ∷ read 3 (codes "a") ∷ read 6 (codes "_C__m") ∷ read 7 (codes "_C__n") ∷ read 12 (codes "1") ∷ read 14 (codes "2") ∷ read 15 (codes "_C__r") ∷ read 18 (codes "_C__x") ∷ read 20 (codes "3") ∷ []

-- class C:
--     __a__ = _b = __c_ = __
abbrev pub program25 : Tree
program25 = record { node = plain kinds.Module; kids = (tree (named kinds.ClassDef (codes "C")) (tree (plain kinds.Assign) (tree (named kinds.NameTarget (codes "__a__")) none (tree (named kinds.NameTarget (codes "_b")) none (tree (named kinds.NameTarget (codes "__c_")) none (tree (named kinds.Name (codes "__")) none none)))) none) none) }

abbrev pub Row25 : Type 0
Row25 = spellings program25 ≡ read 1 (codes "C") ∷ read 3 (codes "__a__") ∷ read 4 (codes "_b") ∷ read 5 (codes "_C__c_") ∷ read 6 (codes "__") ∷ []

-- class C:
--     class __:
--         __a = 1
abbrev pub program26 : Tree
program26 = record { node = plain kinds.Module; kids = (tree (named kinds.ClassDef (codes "C")) (tree (named kinds.ClassDef (codes "__")) (tree (plain kinds.Assign) (tree (named kinds.NameTarget (codes "__a")) none (tree (named kinds.NumberLiteral (codes "1")) none none)) none) none) none) }

abbrev pub Row26 : Type 0
Row26 = spellings program26 ≡ read 1 (codes "C") ∷ read 2 (codes "__") ∷ read 4 (codes "__a") ∷ read 5 (codes "1") ∷ []

-- all of them
pub record NamesHold : Type 0 where
  pub row17 : Row17
  pub row19 : Row19
  pub row20 : Row20
  pub row23 : Row23
  pub row24 : Row24
  pub row25 : Row25
  pub row26 : Row26
