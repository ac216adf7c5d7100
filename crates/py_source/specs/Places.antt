-- Places: a line counts from 1, and a column from 0 in bytes; a line ends with LF, CRLF or CR.
use Rattle.std.specs.Prelude.{ℕ, zero, suc, ◌+◌, ◌==◌, Bool, not, ◌&&◌, ◌||◌, if◌then◌else◌, List, [], ◌∷◌, slice_index}
use Rattle.lint_values.specs.declared.place.Pos.{Pos}

-- a line ends with this byte: LF, or a CR that no LF follows
abbrev pub ends_line : ℕ → List ℕ → Bool
ends_line b rest = b == 10 || (b == 13 && not (slice_index rest 0 == 10))

-- the place so many columns further, or the start of the next line
abbrev pub next_pos : Pos → Bool → ℕ → Pos
next_pos at ends width = if ends then record { line = at.line + 1; col = 0 } else record { line = at.line; col = at.col + width }

-- the place n bytes further
abbrev pub pos_from : Pos → ℕ → List ℕ → Pos
pos_from at zero text = at
pos_from at (suc n) [] = at
pos_from at (suc n) (b ∷ text) = pos_from (next_pos at (ends_line b text) 1) n text

-- the place of a byte
abbrev pub pos_of : List ℕ → ℕ → Pos
pos_of text n = pos_from (record { line = 1; col = 0 }) n text
