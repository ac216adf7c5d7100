-- Strings as they are written: letters, quotes, what stands inside, and the same quotes again.
use Rattle.std.specs.Prelude.{ℕ, ◌+◌, ◌-◌, Bool, not, ◌&&◌, ◌||◌, ◌==◌, nat_le, if◌then◌else◌, [], length, take, drop}
use Rattle.std.specs.List.{list_any, prefix_len}
use Rattle.fstr_parse.specs.Bytes.{Text, byte, is_quote}

-- a byte before the quotes
abbrev pub is_letter : ℕ → Bool
is_letter b = not (is_quote b)

-- how many letters stand before the quotes
abbrev pub letters_len : Text → ℕ
letters_len text = prefix_len is_letter text

-- how many quotes stand at the front: three where three of one kind do, and else one
abbrev pub quotes_at : Text → ℕ
quotes_at text = if byte text 1 == byte text 0 && byte text 2 == byte text 0 then 3 else 1

-- how many quotes stand on each side
abbrev pub quotes_len : Text → ℕ
quotes_len text = quotes_at (drop (letters_len text) text)

-- where the inside begins
abbrev pub inside_start : Text → ℕ
inside_start text = letters_len text + quotes_len text

-- and where it ends
abbrev pub inside_end : Text → ℕ
inside_end text = length text - quotes_len text

-- the quotes stand again behind the inside
abbrev pub is_closed : Text → Bool
is_closed text = nat_le (inside_start text) (inside_end text) && byte text (inside_end text) == byte text (letters_len text)

-- what stands inside the quotes; in a text that is no string, nothing
abbrev pub inside_of : Text → Text
inside_of text = if is_closed text then take (inside_end text - inside_start text) (drop (inside_start text) text) else []

-- a letter, given as a small one, in either case
abbrev pub is_either : ℕ → ℕ → Bool
is_either small b = b == small || b == small - 32

-- the letters hold this one, given as a small one, in either case
abbrev pub has_letter : ℕ → Text → Bool
has_letter small text = list_any (is_either small) (take (letters_len text) text)
