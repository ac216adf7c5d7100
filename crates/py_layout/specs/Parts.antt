-- The first of the parts that line ends outside brackets cut, by its length.
use Rattle.std.specs.Prelude.{ℕ, ◌+◌, if◌then◌else◌, List, [], ◌∷◌}
use Rattle.py_layout.specs.declared.item.Item.{Item}
use Rattle.py_layout.specs.LogicalLines.{depth_behind, ends_line}

-- how many items stand up to and with the first line end outside brackets
abbrev pub part_len : ℕ → List Item → ℕ
part_len depth [] = 0
part_len depth (item ∷ items) = if ends_line depth item then 1 else 1 + part_len (depth_behind depth item) items
