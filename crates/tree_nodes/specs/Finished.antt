-- The rows of a finished tree as they are kept.
use Rattle.std.specs.Prelude.{◌≡◌, ℕ, ◌<◌, ◌^◌, List, map, length, All}
use Rattle.lint_values.specs.declared.place.NodeId.{NodeId}
use Rattle.tree_nodes.specs.declared.tree.TreeRow.{TreeRow}
use Rattle.tree_nodes.specs.Trees.{Tree, Entry, entries, node_at, parent_at}
use Rattle.tree_nodes.specs.Back.{tree_from}
use Rattle.tree_nodes.specs.Kept.{within, node_in, FitsIn, IsTextIn, number_of, parent_in}

-- a node as it is kept, over all names and kids
abbrev pub entry_in : List ℕ → List NodeId → TreeRow → Entry
entry_in names kids row = record { node = node_in names row.label; kids = map number_of (within kids row.kids); parent = parent_in row.above }

-- all nodes as they are kept
abbrev pub entries_in : List ℕ → List NodeId → List TreeRow → List Entry
entries_in names kids rows = map (entry_in names kids) rows

-- a row's spans fit
pub record NodeFits (names : List ℕ) (kids : List NodeId) (row : TreeRow) : Type 0 where
  pub name_fits : IsTextIn names row.label.name
  pub kids_fit : FitsIn (length kids) row.kids

-- the spans of all rows fit, and the rows are the nodes of a tree in preorder
pub record IsFinished (names : List ℕ) (kids : List NodeId) (rows : List TreeRow) : Type 0 where
  pub fit : All (NodeFits names kids) rows
  pub preorder : entries_in names kids rows ≡ entries (tree_from (entries_in names kids rows))
  pub few : length rows < 2 ^ 32

-- what a row says of a node without names and kids
pub record IsRowOf (t : Tree) (n : ℕ) (row : TreeRow) : Type 0 where
  pub kind : row.label.kind ≡ (node_at t n).kind
  pub pos : row.label.pos ≡ (node_at t n).pos
  pub end_line : row.label.end_line ≡ (node_at t n).end_line
  pub parent : parent_in row.above ≡ parent_at t n
