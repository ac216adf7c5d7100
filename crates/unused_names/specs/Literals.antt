-- The text of a string literal, and the words in it.
use Rattle.std.specs.Prelude.{ℕ, ◌-◌, ◌*◌, Bool, not, ◌&&◌, ◌||◌, ◌==◌, nat_le, nat_eq, if◌then◌else◌, List, [], ◌∷◌, length, take, drop}
use Rattle.std.specs.List.{slice_split, starts_with}

-- a letter of ASCII
abbrev pub is_letter : ℕ → Bool
is_letter b = (nat_le 65 b && nat_le b 90) || (nat_le 97 b && nat_le b 122)

-- a character of a name: a letter, a digit, `_`, or a byte beyond ASCII
abbrev pub is_name_byte : ℕ → Bool
is_name_byte b = is_letter b || ((nat_le 48 b && nat_le b 57) || (b == 95 || nat_le 128 b))

-- a literal without the letters before its first quote
unfoldable pub without_prefix : List ℕ → List ℕ
without_prefix [] = []
without_prefix (b ∷ bs) = if is_letter b then without_prefix bs else b ∷ bs

-- three quotes begin it
abbrev pub is_tripled : List ℕ → Bool
is_tripled bs = starts_with nat_eq bs (39 ∷ 39 ∷ 39 ∷ []) || starts_with nat_eq bs (34 ∷ 34 ∷ 34 ∷ [])

-- without so many bytes at each end
unfoldable pub within : ℕ → List ℕ → List ℕ
within k bs = take (length bs - 2 * k) (drop k bs)

-- what stands within the quotes
unfoldable pub within_quotes : List ℕ → List ℕ
within_quotes bs = if is_tripled bs then within 3 bs else within 1 bs

-- the text of a literal: what stands within its quotes, as it is written. Of several strings side by side it reaches
-- from the first quote to the last
abbrev pub text_of : List ℕ → List ℕ
text_of literal = within_quotes (without_prefix literal)

-- the words of a text: what stands between characters that are in no name. Where two of these stand side by side, or one
-- at an end, that is an empty word, which names nothing
unfoldable pub words_of : List ℕ → List (List ℕ)
words_of text = slice_split (λ b. not (is_name_byte b)) text
