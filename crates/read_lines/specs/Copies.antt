-- Rows of one builder behind those of another.
use Rattle.std.specs.Prelude.{◌≡◌, ℕ, ◌+◌, ◌<◌, List, length}
use Rattle.tree_nodes.specs.Rows.{Row, tree_of}
use Rattle.py_forest.specs.declared.top.Top.{Top}

-- earlier rows stay, and from the number `by` on stand as many of the other's rows, each for the tree for which it stands there
pub record AreCopied (by : ℕ) (old new other : List Row) (count : ℕ) : Type 0 where
  pub begins : length old ≡ by
  pub counted : length new ≡ by + count
  pub earlier : (n : ℕ) → n < length old → tree_of new n ≡ tree_of old n
  pub same : (k : ℕ) → k < count → tree_of new (by + k) ≡ tree_of other k

-- the number of a tree's root, so much higher
abbrev pub number_from : ℕ → Top → ℕ
number_from by top = by + top.row
