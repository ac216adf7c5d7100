-- The rows of a builder as they are kept.
use Rattle.std.specs.Prelude.{◌≡◌, ℕ, ◌+◌, ◌<◌, List, [], ◌∷◌, map, length, slice_index, All}
use Rattle.tree_nodes.specs.declared.builder.BuiltRow.{BuiltRow}
use Rattle.tree_nodes.specs.Trees.{count_of}
use Rattle.tree_nodes.specs.Rows.{Row, trees_of}
use Rattle.tree_nodes.specs.Kept.{within, node_in, FitsIn, IsTextIn}

-- a row as it is kept, over all names and kids
abbrev pub row_in : List ℕ → List ℕ → BuiltRow → Row
row_in names kids row = record { node = node_in names row.label; kids = within kids row.kids }

-- all rows as they are kept
abbrev pub rows_in : List ℕ → List ℕ → List BuiltRow → List Row
rows_in names kids rows = map (row_in names kids) rows

-- a row's spans fit
pub record RowFits (names kids : List ℕ) (row : BuiltRow) : Type 0 where
  pub name_fits : IsTextIn names row.label.name
  pub kids_fit : FitsIn (length kids) row.kids

-- the kids of each row are earlier ones, where n rows stand before these
abbrev pub AreEarlier : ℕ → List Row → Type 0
AreEarlier n [] = Unit {0}
AreEarlier n (row ∷ rows) = All (λ k. k < n) row.kids × AreEarlier (n + 1) rows

-- how many nodes each row's tree has, as the rows say
abbrev pub sizes_in : List BuiltRow → List ℕ
sizes_in rows = map (λ row. row.size) rows

-- the sum of the sizes at some numbers
abbrev pub total : List ℕ → List ℕ → ℕ
total sizes [] = 0
total sizes (k ∷ ks) = slice_index sizes k + total sizes ks

-- the spans of all rows fit, kids are earlier rows, and each row says how many nodes its tree has
pub record IsBuilt (names kids : List ℕ) (rows : List BuiltRow) : Type 0 where
  pub fit : All (RowFits names kids) rows
  pub earlier : AreEarlier 0 (rows_in names kids rows)
  pub sizes : sizes_in rows ≡ map count_of (trees_of (rows_in names kids rows))
