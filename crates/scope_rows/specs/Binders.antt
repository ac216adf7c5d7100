-- Small programs, and which of their nodes bind a name in which scope. Expected values
-- are those of Python's `symtable` and `ast`; tools/scope_choice.py writes this file.
use Rattle.tree_nodes.specs.declared.kind.Kind.TheVariants as kinds
use Rattle.std.specs.Prelude.{◌≡◌, [], ◌∷◌, codes}
use Rattle.tree_nodes.specs.Trees.{none, tree, Tree}
use Rattle.scope_rows.specs.Questions.{plain, named, binders, mark}

-- def f():
--     x = 1
--     def g():
--         nonlocal x
--         x = 2
--         def h():
--             nonlocal x
--             x = 3
abbrev pub program46 : Tree
program46 = record { node = plain kinds.Module; kids = (tree (named kinds.FunctionDef (codes "f")) (tree (plain kinds.Assign) (tree (named kinds.NameTarget (codes "x")) none (tree (named kinds.NumberLiteral (codes "1")) none none)) (tree (named kinds.FunctionDef (codes "g")) (tree (plain kinds.Nonlocal) (tree (named kinds.DeclaredName (codes "x")) none none) (tree (plain kinds.Assign) (tree (named kinds.NameTarget (codes "x")) none (tree (named kinds.NumberLiteral (codes "2")) none none)) (tree (named kinds.FunctionDef (codes "h")) (tree (plain kinds.Nonlocal) (tree (named kinds.DeclaredName (codes "x")) none none) (tree (plain kinds.Assign) (tree (named kinds.NameTarget (codes "x")) none (tree (named kinds.NumberLiteral (codes "3")) none none)) none)) none))) none)) none) }

abbrev pub Row46 : Type 0
Row46 = binders program46 ≡ mark 1 0 (codes "f") ∷ mark 3 1 (codes "x") ∷ mark 5 1 (codes "g") ∷ mark 9 1 (codes "x") ∷ mark 11 5 (codes "h") ∷ mark 15 1 (codes "x") ∷ []

-- class C:
--     a: __b = __c
--     __d: int
abbrev pub program47 : Tree
program47 = record { node = plain kinds.Module; kids = (tree (named kinds.ClassDef (codes "C")) (tree (plain kinds.AnnAssign) (tree (named kinds.NameTarget (codes "a")) none (tree (plain kinds.Annotation) (tree (named kinds.Name (codes "__b")) none none) (tree (named kinds.Name (codes "__c")) none none))) (tree (plain kinds.AnnAssign) (tree (named kinds.NameTarget (codes "__d")) none (tree (plain kinds.Annotation) (tree (named kinds.Name (codes "int")) none none) none)) none)) none) }

abbrev pub Row47 : Type 0
Row47 = binders program47 ≡ mark 1 0 (codes "C") ∷ mark 3 1 (codes "a") ∷ []

-- def f(x):
--     def g():
--         global x
--         nonlocal x
--         x = 1
abbrev pub program49 : Tree
program49 = record { node = plain kinds.Module; kids = (tree (named kinds.FunctionDef (codes "f")) (tree (named kinds.Parameter (codes "x")) none (tree (named kinds.FunctionDef (codes "g")) (tree (plain kinds.Global) (tree (named kinds.DeclaredName (codes "x")) none none) (tree (plain kinds.Nonlocal) (tree (named kinds.DeclaredName (codes "x")) none none) (tree (plain kinds.Assign) (tree (named kinds.NameTarget (codes "x")) none (tree (named kinds.NumberLiteral (codes "1")) none none)) none))) none)) none) }

abbrev pub Row49 : Type 0
Row49 = binders program49 ≡ mark 1 0 (codes "f") ∷ mark 2 1 (codes "x") ∷ mark 3 1 (codes "g") ∷ mark 9 0 (codes "x") ∷ []

-- x = 1
-- class C:
--     x = 2
--     def f():
--         nonlocal x
--         x = 3
abbrev pub program50 : Tree
program50 = record { node = plain kinds.Module; kids = (tree (plain kinds.Assign) (tree (named kinds.NameTarget (codes "x")) none (tree (named kinds.NumberLiteral (codes "1")) none none)) (tree (named kinds.ClassDef (codes "C")) (tree (plain kinds.Assign) (tree (named kinds.NameTarget (codes "x")) none (tree (named kinds.NumberLiteral (codes "2")) none none)) (tree (named kinds.FunctionDef (codes "f")) (tree (plain kinds.Nonlocal) (tree (named kinds.DeclaredName (codes "x")) none none) (tree (plain kinds.Assign) (tree (named kinds.NameTarget (codes "x")) none (tree (named kinds.NumberLiteral (codes "3")) none none)) none)) none)) none)) }

abbrev pub Row50 : Type 0
Row50 = binders program50 ≡ mark 2 0 (codes "x") ∷ mark 4 0 (codes "C") ∷ mark 6 4 (codes "x") ∷ mark 8 4 (codes "f") ∷ []

-- all of them
pub record BindersHold : Type 0 where
  pub row46 : Row46
  pub row47 : Row47
  pub row49 : Row49
  pub row50 : Row50
