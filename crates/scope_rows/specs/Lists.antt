-- Small programs, and the nodes that bind, read, store and delete each name. Expected values
-- are those of Python's `symtable` and `ast`; tools/scope_choice.py writes this file.
use Rattle.tree_nodes.specs.declared.kind.Kind.TheVariants as kinds
use Rattle.std.specs.Prelude.{◌≡◌, [], ◌∷◌, codes}
use Rattle.tree_nodes.specs.Trees.{none, tree, Tree}
use Rattle.scope_rules.specs.Answers.{binders_of, loads_of, stores_of, deletes_of}
use Rattle.scope_rows.specs.Questions.{plain, named}

-- def f(b):
--     {c: (x := c) for c in b}
abbrev pub program15 : Tree
program15 = record { node = plain kinds.Module; kids = (tree (named kinds.FunctionDef (codes "f")) (tree (named kinds.Parameter (codes "b")) none (tree (plain kinds.ExpressionStatement) (tree (plain kinds.DictComprehension) (tree (plain kinds.DictItem) (tree (named kinds.Name (codes "c")) none (tree (named kinds.NamedExpression (codes "x")) (tree (named kinds.Name (codes "c")) none none) none)) (tree (plain kinds.ComprehensionFor) (tree (named kinds.NameTarget (codes "c")) none (tree (named kinds.Name (codes "b")) none none)) none)) none) none)) none) }

abbrev pub Row15a : Type 0
Row15a = binders_of program15 0 (codes "f") ≡ 1 ∷ []

abbrev pub Row15b : Type 0
Row15b = binders_of program15 1 (codes "b") ≡ 2 ∷ []

abbrev pub Row15c : Type 0
Row15c = binders_of program15 1 (codes "x") ≡ 7 ∷ []

abbrev pub Row15d : Type 0
Row15d = binders_of program15 4 (codes "c") ≡ 10 ∷ []

abbrev pub Row15e : Type 0
Row15e = loads_of program15 1 (codes "b") ≡ 11 ∷ []

abbrev pub Row15f : Type 0
Row15f = loads_of program15 4 (codes "c") ≡ 6 ∷ 8 ∷ []

-- class C:
--     import m as __n
--     import __o.p
--     from __q import __r
abbrev pub program21 : Tree
program21 = record { node = plain kinds.Module; kids = (tree (named kinds.ClassDef (codes "C")) (tree (plain kinds.Import) (tree (named kinds.Alias (codes "m")) (tree (named kinds.AsName (codes "__n")) none none) none) (tree (plain kinds.Import) (tree (named kinds.Alias (codes "__o.p")) none none) (tree (named kinds.ImportFrom (codes "__q")) (tree (named kinds.Alias (codes "__r")) none none) none))) none) }

abbrev pub Row21a : Type 0
Row21a = binders_of program21 0 (codes "C") ≡ 1 ∷ []

abbrev pub Row21b : Type 0
Row21b = binders_of program21 1 (codes "_C__n") ≡ 3 ∷ []

abbrev pub Row21c : Type 0
Row21c = binders_of program21 1 (codes "_C__o") ≡ 6 ∷ []

abbrev pub Row21d : Type 0
Row21d = binders_of program21 1 (codes "_C__r") ≡ 8 ∷ []

-- def f():
--     x = 1
--     def g():
--         x = 2
--         def h():
--             nonlocal x
--             x = 3
abbrev pub program27 : Tree
program27 = record { node = plain kinds.Module; kids = (tree (named kinds.FunctionDef (codes "f")) (tree (plain kinds.Assign) (tree (named kinds.NameTarget (codes "x")) none (tree (named kinds.NumberLiteral (codes "1")) none none)) (tree (named kinds.FunctionDef (codes "g")) (tree (plain kinds.Assign) (tree (named kinds.NameTarget (codes "x")) none (tree (named kinds.NumberLiteral (codes "2")) none none)) (tree (named kinds.FunctionDef (codes "h")) (tree (plain kinds.Nonlocal) (tree (named kinds.DeclaredName (codes "x")) none none) (tree (plain kinds.Assign) (tree (named kinds.NameTarget (codes "x")) none (tree (named kinds.NumberLiteral (codes "3")) none none)) none)) none)) none)) none) }

abbrev pub Row27a : Type 0
Row27a = binders_of program27 0 (codes "f") ≡ 1 ∷ []

abbrev pub Row27b : Type 0
Row27b = binders_of program27 1 (codes "g") ≡ 5 ∷ []

abbrev pub Row27c : Type 0
Row27c = binders_of program27 1 (codes "x") ≡ 3 ∷ []

abbrev pub Row27d : Type 0
Row27d = binders_of program27 5 (codes "h") ≡ 9 ∷ []

abbrev pub Row27e : Type 0
Row27e = binders_of program27 5 (codes "x") ≡ 7 ∷ 13 ∷ []

-- def f():
--     x = 1
--     def g():
--         nonlocal x
--         def h():
--             nonlocal x
--             x = 3
abbrev pub program28 : Tree
program28 = record { node = plain kinds.Module; kids = (tree (named kinds.FunctionDef (codes "f")) (tree (plain kinds.Assign) (tree (named kinds.NameTarget (codes "x")) none (tree (named kinds.NumberLiteral (codes "1")) none none)) (tree (named kinds.FunctionDef (codes "g")) (tree (plain kinds.Nonlocal) (tree (named kinds.DeclaredName (codes "x")) none none) (tree (named kinds.FunctionDef (codes "h")) (tree (plain kinds.Nonlocal) (tree (named kinds.DeclaredName (codes "x")) none none) (tree (plain kinds.Assign) (tree (named kinds.NameTarget (codes "x")) none (tree (named kinds.NumberLiteral (codes "3")) none none)) none)) none)) none)) none) }

abbrev pub Row28a : Type 0
Row28a = binders_of program28 0 (codes "f") ≡ 1 ∷ []

abbrev pub Row28b : Type 0
Row28b = binders_of program28 1 (codes "g") ≡ 5 ∷ []

abbrev pub Row28c : Type 0
Row28c = binders_of program28 1 (codes "x") ≡ 3 ∷ 12 ∷ []

abbrev pub Row28d : Type 0
Row28d = binders_of program28 5 (codes "h") ≡ 8 ∷ []

-- a.b = c.d
-- del a.b
abbrev pub program33 : Tree
program33 = record { node = plain kinds.Module; kids = (tree (plain kinds.Assign) (tree (named kinds.AttributeTarget (codes "b")) (tree (named kinds.Name (codes "a")) none none) (tree (named kinds.Attribute (codes "d")) (tree (named kinds.Name (codes "c")) none none) none)) (tree (plain kinds.Delete) (tree (named kinds.AttributeTarget (codes "b")) (tree (named kinds.Name (codes "a")) none none) none) none)) }

abbrev pub Row33a : Type 0
Row33a = stores_of program33 (codes "b") ≡ 2 ∷ []

abbrev pub Row33b : Type 0
Row33b = deletes_of program33 (codes "b") ≡ 7 ∷ []

-- try:
--     pass
-- except* E as e:
--     e
abbrev pub program34 : Tree
program34 = record { node = plain kinds.Module; kids = (tree (plain kinds.Try) (tree (plain kinds.Pass) none (tree (plain kinds.ExceptStarHandler) (tree (named kinds.Name (codes "E")) none (tree (named kinds.AsName (codes "e")) none (tree (plain kinds.ExpressionStatement) (tree (named kinds.Name (codes "e")) none none) none))) none)) none) }

abbrev pub Row34a : Type 0
Row34a = binders_of program34 0 (codes "e") ≡ 5 ∷ []

abbrev pub Row34b : Type 0
Row34b = loads_of program34 0 (codes "e") ≡ 7 ∷ []

-- def f(a):
--     class C:
--         class D:
--             b = a
abbrev pub program44 : Tree
program44 = record { node = plain kinds.Module; kids = (tree (named kinds.FunctionDef (codes "f")) (tree (named kinds.Parameter (codes "a")) none (tree (named kinds.ClassDef (codes "C")) (tree (named kinds.ClassDef (codes "D")) (tree (plain kinds.Assign) (tree (named kinds.NameTarget (codes "b")) none (tree (named kinds.Name (codes "a")) none none)) none) none) none)) none) }

abbrev pub Row44a : Type 0
Row44a = binders_of program44 0 (codes "f") ≡ 1 ∷ []

abbrev pub Row44b : Type 0
Row44b = binders_of program44 1 (codes "C") ≡ 3 ∷ []

abbrev pub Row44c : Type 0
Row44c = binders_of program44 1 (codes "a") ≡ 2 ∷ []

abbrev pub Row44d : Type 0
Row44d = binders_of program44 3 (codes "D") ≡ 4 ∷ []

abbrev pub Row44e : Type 0
Row44e = binders_of program44 4 (codes "b") ≡ 6 ∷ []

abbrev pub Row44f : Type 0
Row44f = loads_of program44 1 (codes "a") ≡ 7 ∷ []

-- all of them
pub record ListsHold : Type 0 where
  pub row15a : Row15a
  pub row15b : Row15b
  pub row15c : Row15c
  pub row15d : Row15d
  pub row15e : Row15e
  pub row15f : Row15f
  pub row21a : Row21a
  pub row21b : Row21b
  pub row21c : Row21c
  pub row21d : Row21d
  pub row27a : Row27a
  pub row27b : Row27b
  pub row27c : Row27c
  pub row27d : Row27d
  pub row27e : Row27e
  pub row28a : Row28a
  pub row28b : Row28b
  pub row28c : Row28c
  pub row28d : Row28d
  pub row33a : Row33a
  pub row33b : Row33b
  pub row34a : Row34a
  pub row34b : Row34b
  pub row44a : Row44a
  pub row44b : Row44b
  pub row44c : Row44c
  pub row44d : Row44d
  pub row44e : Row44e
  pub row44f : Row44f
