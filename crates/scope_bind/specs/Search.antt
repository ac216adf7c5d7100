-- What is kept of a table, and where its parts begin.
use Rattle.std.specs.Prelude.{◌≡◌, ℕ, ◌<◌, ◌≤◌, List, length, map, slice_index_or}
use Rattle.std.specs.List.Sorted.{IsSorted}
use Rattle.lint_values.specs.declared.place.NodeId.{NodeId}
use Rattle.scope_bind.specs.declared.row.Row.{Row}
use Rattle.scope_bind.specs.Rows.{row_cmp}

-- rows are in order, and beside them stand their nodes
pub record IsKept (rows : List Row) (nodes : List NodeId) : Type 0 where
  pub sorted : IsSorted row_cmp rows
  pub numbered : nodes ≡ map (λ r. r.node) rows

-- the rows before a place are below a rank, and those from it on are not
pub record IsEdge (rank : Row → ℕ) (least : ℕ) (rows : List Row) (i : ℕ) : Type 0 where
  pub bound : i ≤ length rows
  pub lower : (k : ℕ) (d : Row) → k < i → rank (slice_index_or rows k d) < least
  pub upper : (k : ℕ) (d : Row) → i ≤ k → k < length rows → least ≤ rank (slice_index_or rows k d)
