-- Rows: what a builder has taken so far. A row's kids are earlier rows, so that each row stands for a tree.
use Rattle.std.specs.Prelude.{ℕ, List, [], ◌∷◌, ◌++◌, map, slice_index_or, Option}
use Rattle.lint_values.specs.declared.place.Pos.{Pos}
use Rattle.tree_nodes.specs.declared.kind.Kind.{Kind}
use Rattle.tree_nodes.specs.Trees.{Node, Trees, Tree, pack}
use Rattle.tree_nodes.specs.Back.{no_tree}

-- a node, and the numbers of the rows of its kids
pub record Row : Type 0 where
  pub node : Node
  pub kids : List ℕ

-- a row of its parts
abbrev pub row_with : Kind → Pos → ℕ → Option (List ℕ) → List ℕ → Row
row_with kind pos end_line name kids = record { node = record { kind = kind; pos = pos; end_line = end_line; name = name }; kids = kids }

-- the trees at some numbers
abbrev pub picked : List Tree → List ℕ → List Tree
picked made kids = map (λ k. slice_index_or made k no_tree) kids

-- a row's tree over those of the rows before it
abbrev pub tree_over : List Tree → Row → Tree
tree_over made row = record { node = row.node; kids = pack (picked made row.kids) }

-- the trees made so far, and then those of further rows
abbrev pub trees_from : List Tree → List Row → List Tree
trees_from made [] = made
trees_from made (row ∷ rows) = trees_from (made ++ tree_over made row ∷ []) rows

-- the tree of each row
unfoldable pub trees_of : List Row → List Tree
trees_of rows = trees_from [] rows

-- the tree that a row stands for
unfoldable pub tree_of : List Row → ℕ → Tree
tree_of rows n = slice_index_or (trees_of rows) n no_tree

-- what a tree says, but of another kind and over other kids
abbrev pub with_kind : Kind → Trees → Tree → Tree
with_kind kind kids t = record { node = record { kind = kind; pos = t.node.pos; end_line = t.node.end_line; name = t.node.name }; kids = kids }
