-- A comment stands alone where only blanks stand before it on its physical line.
use Rattle.std.specs.Prelude.{Bool, true, false, List, fold}
use Rattle.py_layout.specs.declared.item.Item.{Item}
use Rattle.py_layout.specs.declared.item.Item.TheVariants.{Blank, Join, LineEnd}

-- whether the head of a physical line goes on behind the item
abbrev pub is_head_behind : Bool → Item → Bool
is_head_behind head (Blank widths) = head
is_head_behind head Join = true
is_head_behind head LineEnd = true
is_head_behind head _ = false

-- only blanks stand between what comes behind the items and the start of its physical line
abbrev pub is_at_head : List Item → Bool
is_at_head items = fold is_head_behind true items
