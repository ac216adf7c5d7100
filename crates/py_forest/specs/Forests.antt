-- The trees of a forest.
use Rattle.std.specs.Prelude.{ℕ, List, map}
use Rattle.tree_nodes.specs.Trees.{Tree}
use Rattle.tree_nodes.specs.Rows.{Row, tree_of}
use Rattle.py_forest.specs.declared.top.Top.{Top}
use Rattle.py_forest.specs.declared.forest.Forest.{Forest}

-- the number of a tree's root
abbrev pub row_of : Top → ℕ
row_of top = top.row

-- a tree, over a builder's rows
abbrev pub tree_at : List Row → Top → Tree
tree_at rows top = tree_of rows top.row

-- the trees in order
unfoldable pub trees : Forest → List Tree
trees f = map (tree_at f.builder) f.tops.items
