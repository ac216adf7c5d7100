-- Small programs, and the attributes that they delete. Expected values
-- are those of Python's `symtable` and `ast`; tools/scope_choice.py writes this file.
use Rattle.tree_nodes.specs.declared.kind.Kind.TheVariants as kinds
use Rattle.std.specs.Prelude.{◌≡◌, [], codes}
use Rattle.tree_nodes.specs.Trees.{none, tree, Tree}
use Rattle.scope_rows.specs.Questions.{plain, named, deletes}

-- def f(x):
--     async def g():
--         nonlocal x
--         del x
abbrev pub program29 : Tree
program29 = record { node = plain kinds.Module; kids = (tree (named kinds.FunctionDef (codes "f")) (tree (named kinds.Parameter (codes "x")) none (tree (named kinds.AsyncFunctionDef (codes "g")) (tree (plain kinds.Nonlocal) (tree (named kinds.DeclaredName (codes "x")) none none) (tree (plain kinds.Delete) (tree (named kinds.NameTarget (codes "x")) none none) none)) none)) none) }

abbrev pub Row29 : Type 0
Row29 = deletes program29 ≡ []

-- all of them
pub record DeletesHold : Type 0 where
  pub row29 : Row29
