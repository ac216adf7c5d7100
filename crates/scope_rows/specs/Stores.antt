-- Small programs, and the attributes that they store. Expected values
-- are those of Python's `symtable` and `ast`; tools/scope_choice.py writes this file.
use Rattle.tree_nodes.specs.declared.kind.Kind.TheVariants as kinds
use Rattle.std.specs.Prelude.{◌≡◌, [], ◌∷◌, codes}
use Rattle.tree_nodes.specs.Trees.{none, tree, Tree}
use Rattle.scope_rows.specs.Questions.{plain, named, stores, mark}

-- del a.b, (c.d, [e.f])
abbrev pub program30 : Tree
program30 = record { node = plain kinds.Module; kids = (tree (plain kinds.Delete) (tree (named kinds.AttributeTarget (codes "b")) (tree (named kinds.Name (codes "a")) none none) (tree (plain kinds.TupleTarget) (tree (named kinds.AttributeTarget (codes "d")) (tree (named kinds.Name (codes "c")) none none) (tree (plain kinds.ListTarget) (tree (named kinds.AttributeTarget (codes "f")) (tree (named kinds.Name (codes "e")) none none) none) none)) none)) none) }

abbrev pub Row30 : Type 0
Row30 = stores program30 ≡ []

-- a.b, [c.d, *e.f] = g
abbrev pub program31 : Tree
program31 = record { node = plain kinds.Module; kids = (tree (plain kinds.Assign) (tree (plain kinds.TupleTarget) (tree (named kinds.AttributeTarget (codes "b")) (tree (named kinds.Name (codes "a")) none none) (tree (plain kinds.ListTarget) (tree (named kinds.AttributeTarget (codes "d")) (tree (named kinds.Name (codes "c")) none none) (tree (plain kinds.StarredTarget) (tree (named kinds.AttributeTarget (codes "f")) (tree (named kinds.Name (codes "e")) none none) none) none)) none)) (tree (named kinds.Name (codes "g")) none none)) none) }

abbrev pub Row31 : Type 0
Row31 = stores program31 ≡ mark 3 0 (codes "b") ∷ mark 6 0 (codes "d") ∷ mark 9 0 (codes "f") ∷ []

-- a.b: c
abbrev pub program32 : Tree
program32 = record { node = plain kinds.Module; kids = (tree (plain kinds.AnnAssign) (tree (named kinds.AttributeTarget (codes "b")) (tree (named kinds.Name (codes "a")) none none) (tree (plain kinds.Annotation) (tree (named kinds.Name (codes "c")) none none) none)) none) }

abbrev pub Row32 : Type 0
Row32 = stores program32 ≡ []

-- del a[[b for c.d in e]]
abbrev pub program48 : Tree
program48 = record { node = plain kinds.Module; kids = (tree (plain kinds.Delete) (tree (plain kinds.SubscriptTarget) (tree (named kinds.Name (codes "a")) none (tree (plain kinds.ListComprehension) (tree (named kinds.Name (codes "b")) none (tree (plain kinds.ComprehensionFor) (tree (named kinds.AttributeTarget (codes "d")) (tree (named kinds.Name (codes "c")) none none) (tree (named kinds.Name (codes "e")) none none)) none)) none)) none) none) }

abbrev pub Row48 : Type 0
Row48 = stores program48 ≡ mark 7 0 (codes "d") ∷ []

-- all of them
pub record StoresHold : Type 0 where
  pub row30 : Row30
  pub row31 : Row31
  pub row32 : Row32
  pub row48 : Row48
