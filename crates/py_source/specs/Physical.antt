-- Physical lines: each ends with LF, CRLF or CR, or with the text; nothing stands behind a last line end.
use Rattle.std.specs.Prelude.{◌≡◌, ℕ, ◌+◌, ◌-◌, ◌<◌, Bool, not, ◌&&◌, ◌||◌, ◌==◌, if◌then◌else◌, List, [], ◌∷◌, length, drop}
use Rattle.std.specs.List.{prefix_len, take_while}
use Rattle.py_source.specs.declared.span.Span.{Span}

-- a byte of a line, which is neither LF nor CR
abbrev pub is_in_line : ℕ → Bool
is_in_line b = not (b == 10 || b == 13)

-- the length of the physical line at the front, without its line end
abbrev pub line_len : List ℕ → ℕ
line_len text = prefix_len is_in_line text

-- the physical line at the front, without its line end
abbrev pub first_line : List ℕ → List ℕ
first_line text = take_while is_in_line text

-- what stands behind the line end at the front: CRLF is one
abbrev pub behind_line_end : List ℕ → List ℕ
behind_line_end [] = []
behind_line_end (b ∷ []) = []
behind_line_end (b ∷ c ∷ text) = if b == 13 && c == 10 then text else c ∷ text

-- the text behind its first physical line
abbrev pub behind_line : List ℕ → List ℕ
behind_line text = behind_line_end (drop (line_len text) text)

-- how many bytes the first physical line takes with its line end
abbrev pub whole_line_len : List ℕ → ℕ
whole_line_len text = length text - length (behind_line text)

-- the text that begins at this place has these physical lines, given as places without line ends
abbrev pub ArePhysicalFrom : ℕ → List ℕ → List Span → Type 0
ArePhysicalFrom place text [] = text ≡ []
ArePhysicalFrom place text (line ∷ lines) =
    (0 < length text) × (line ≡ record { start = place; end = place + line_len text }) × ArePhysicalFrom (place + whole_line_len text) (behind_line text) lines

-- the physical lines of a text
abbrev pub ArePhysical : List ℕ → List Span → Type 0
ArePhysical text lines = ArePhysicalFrom 0 text lines
