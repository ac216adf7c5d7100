-- How a text stands in a source: as a file of its own, or inside brackets, where line ends and indentation do not count.
use Rattle.std.specs.Prelude.{Bool, true, false, if◌then◌else◌, List, map}
use Rattle.lint_values.specs.declared.place.Pos.{Pos}
use Rattle.py_layout.specs.declared.item.Item.{Item}
use Rattle.py_layout.specs.declared.item.Item.TheVariants as item
use Rattle.py_token.specs.declared.setting.Setting.{Setting}

-- a file of its own, whose places count from line 1 and column 0
abbrev pub whole : Setting
whole = record { from = record { line = 1; col = 0 }; inside = false }

-- a part inside brackets, whose places count from this one
abbrev pub inside_at : Pos → Setting
inside_at at = record { from = at; inside = true }

-- inside brackets a line end ends no line and blanks are no indentation: each is like a join
abbrev pub inside_brackets : Item → Item
inside_brackets item.LineEnd = item.Join
inside_brackets (item.Blank widths) = item.Join
inside_brackets other = other

-- the items as the layout sees them, inside brackets or not
abbrev pub seen : Bool → List Item → List Item
seen false items = items
seen true items = map inside_brackets items

-- the item as the layout sees it
abbrev pub seen_as : Bool → Item → Item
seen_as inside item = if inside then inside_brackets item else item
