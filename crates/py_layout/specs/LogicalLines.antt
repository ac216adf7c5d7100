-- Logical lines: a line end outside brackets ends one, and a line of blanks, form feeds and a comment is none.
use Rattle.std.specs.Prelude.{ℕ, ◌+◌, ◌-◌, ◌==◌, Bool, true, false, if◌then◌else◌, List, [], ◌∷◌, ◌++◌, length, count_by}
use Rattle.py_layout.specs.declared.item.Item.{Item}
use Rattle.py_layout.specs.declared.item.Item.TheVariants.{Blank, LineEnd, Open, Close, Plain, Stop}
use Rattle.py_layout.specs.declared.item.Widths.{Widths}
use Rattle.py_layout.specs.Blanks.{no_widths}

-- how many brackets stand open behind the item
abbrev pub depth_behind : ℕ → Item → ℕ
depth_behind depth (Open bracket) = depth + 1
depth_behind depth (Close bracket) = depth - 1
depth_behind depth _ = depth

-- a line end outside brackets
abbrev pub ends_line : ℕ → Item → Bool
ends_line depth LineEnd = depth == 0
ends_line depth _ = false

-- the item, and then the first part
abbrev pub onto_first : Item → List (List Item) → List (List Item)
onto_first item [] = (item ∷ []) ∷ []
onto_first item (part ∷ parts) = (item ∷ part) ∷ parts

-- the items in parts, each up to and with a line end outside brackets; the last may have none
abbrev pub parts_of : ℕ → List Item → List (List Item)
parts_of depth [] = []
parts_of depth (item ∷ items) =
    if ends_line depth item then (item ∷ []) ∷ parts_of 0 items else onto_first item (parts_of (depth_behind depth item) items)

-- brackets and other tokens; a place where no token could be read counts as one
abbrev pub is_token : Item → Bool
is_token (Open bracket) = true
is_token (Close bracket) = true
is_token Plain = true
is_token Stop = true
is_token _ = false

abbrev pub token_count : List Item → ℕ
token_count items = count_by is_token items

-- the indentation of a line: the blanks at the head of its first physical line
abbrev pub indentation_of : List Item → Widths
indentation_of (Blank widths ∷ items) = widths
indentation_of _ = no_widths

-- A logical line before its level is known: the item where its first physical line begins, its first token and the token
-- behind its last, and the widths of its indentation.
pub record Line : Type 0 where
  pub place : ℕ
  pub first : ℕ
  pub end : ℕ
  pub widths : Widths

-- the logical line of a part that holds a token, where so many items and tokens stand before it
abbrev pub line_of : ℕ → ℕ → List Item → List Line
line_of place token part =
    if token_count part == 0 then []
    else record { place = place; first = token; end = token + token_count part; widths = indentation_of part } ∷ []

-- the logical lines of parts
abbrev pub lines_from : ℕ → ℕ → List (List Item) → List Line
lines_from place token [] = []
lines_from place token (part ∷ parts) = line_of place token part ++ lines_from (place + length part) (token + token_count part) parts

-- the logical lines of the items
abbrev pub lines_of : List Item → List Line
lines_of items = lines_from 0 0 (parts_of 0 items)
