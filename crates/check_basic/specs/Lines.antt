-- The physical lines of a source: they end with LF, CR LF or CR, and a byte order mark at the start is no part of them.
use Rattle.std.specs.Prelude.{ℕ, ◌-◌, List, [], ◌∷◌, Bool, false, if◌then◌else◌, ◌==◌, ◌||◌, ◌&&◌, nat_lt, nat_le, nat_eq, length, drop, count_by, slice_index}
use Rattle.std.specs.List.{onto_first, starts_with}

abbrev pub byte_order_mark : List ℕ
byte_order_mark = 239 ∷ 187 ∷ 191 ∷ []

-- a file's bytes without a byte order mark at the start
abbrev pub source_of : List ℕ → List ℕ
source_of bytes = if starts_with nat_eq bytes byte_order_mark then drop 3 bytes else bytes

abbrev pub begins_with_lf : List ℕ → Bool
begins_with_lf [] = false
begins_with_lf (b ∷ bs) = b == 10

-- the lines, without their ends. A CR before a LF is no end of its own, and behind the last end no empty line stands.
abbrev pub lines_of : List ℕ → List (List ℕ)
lines_of [] = []
lines_of (b ∷ bs) =
    if b == 10 then [] ∷ lines_of bs
    else if b == 13 then (if begins_with_lf bs then lines_of bs else [] ∷ lines_of bs)
    else onto_first b (lines_of bs)

abbrev pub is_line_end : ℕ → Bool
is_line_end b = b == 10 || b == 13

-- what follows a line end
abbrev pub after_end : List ℕ → List ℕ
after_end [] = []
after_end (b ∷ bs) = if b == 13 && begins_with_lf bs then drop 1 bs else bs

-- the last byte ends a line
abbrev pub ends_line : List ℕ → Bool
ends_line text = nat_lt 0 (length text) && is_line_end (slice_index text (length text - 1))

-- a character begins at each byte that continues none
abbrev pub begins_char : ℕ → Bool
begins_char b = nat_lt b 128 || nat_le 192 b

abbrev pub char_count : List ℕ → ℕ
char_count line = count_by begins_char line
