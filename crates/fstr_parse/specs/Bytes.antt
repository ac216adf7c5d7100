-- The bytes that delimit the parts of an f-string. All of them are ASCII, so no character is cut between two of its bytes.
use Rattle.std.specs.Prelude.{ℕ, Bool, ◌||◌, ◌==◌, List, slice_index}

-- what stands between the quotes of an f-string, as UTF-8 bytes
abbrev pub Text : Type 0
Text = List ℕ

-- the byte at a place, and 0 behind the end
abbrev pub byte : Text → ℕ → ℕ
byte text place = slice_index text place

-- `{` or `}`
abbrev pub is_brace : ℕ → Bool
is_brace b = b == 123 || b == 125

-- space, tab, form feed, CR or LF: a blank or a part of a line end
abbrev pub is_blank : ℕ → Bool
is_blank b = b == 32 || (b == 9 || (b == 12 || (b == 13 || b == 10)))

-- `'` or `"`
abbrev pub is_quote : ℕ → Bool
is_quote b = b == 39 || b == 34

-- `(`, `[` or `{`
abbrev pub is_opening : ℕ → Bool
is_opening b = b == 40 || (b == 91 || b == 123)

-- `)`, `]` or `}`
abbrev pub is_closing : ℕ → Bool
is_closing b = b == 41 || (b == 93 || b == 125)

-- the letter of a conversion: `r`, `s` or `a`
abbrev pub is_conversion : ℕ → Bool
is_conversion b = b == 114 || (b == 115 || b == 97)
