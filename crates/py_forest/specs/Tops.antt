-- The trees of a forest as they are kept.
use Rattle.std.specs.Prelude.{◌≡◌, ℕ, ◌<◌, ◌≤◌, List, length}
use Rattle.tree_nodes.specs.Rows.{Row, tree_of}
use Rattle.py_forest.specs.declared.top.Top.{Top}

-- a tree's root is a row, of the kind that is kept beside it
pub record IsTop (rows : List Row) (top : Top) : Type 0 where
  pub made : top.row < length rows
  pub kind : top.kind ≡ (tree_of rows top.row).node.kind

-- rows were added, and earlier ones stand for the trees for which they stood
pub record Grows (rows rows' : List Row) : Type 0 where
  pub longer : length rows ≤ length rows'
  pub stay : (n : ℕ) → n < length rows → tree_of rows' n ≡ tree_of rows n
