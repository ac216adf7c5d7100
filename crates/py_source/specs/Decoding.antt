-- From bytes to text: a file is UTF-8 without a byte 0, its byte order mark is no part of the text, and no comment names
-- another encoding where a byte above 127 stands in the file. Places count from behind the byte order mark.
use Rattle.std.specs.Prelude.{◌≡◌, ◌≢◌, ℕ, ◌<◌, nat_le, nat_eq, Bool, true, if◌then◌else◌, List, [], ◌∷◌, length, drop, slice_index, IsUtf8, Some}
use Rattle.std.specs.Str.{IsValidUpTo}
use Rattle.std.specs.List.{list_any, starts_with}
use Rattle.py_source.specs.Coding.{other_encoding}
use Rattle.py_source.specs.declared.decoding.SourceCause.{SourceCause}
use Rattle.py_source.specs.declared.decoding.SourceCause.TheVariants.{NotUtf8, NulByte, Coding}

-- the bytes of U+FEFF
abbrev pub byte_order_mark : List ℕ
byte_order_mark = 239 ∷ 187 ∷ 191 ∷ []

-- the bytes behind the byte order mark, if one stands at the start
abbrev pub without_mark : List ℕ → List ℕ
without_mark bytes = if starts_with nat_eq bytes byte_order_mark then drop 3 bytes else bytes

-- no byte is 0
abbrev pub HasNoNul : List ℕ → Type 0
HasNoNul text = (k : ℕ) → k < length text → slice_index text k ≢ 0

-- the first byte 0 stands here
pub record IsFirstNul (text : List ℕ) (n : ℕ) : Type 0 where
  pub within : n < length text
  pub here : slice_index text n ≡ 0
  pub first : (k : ℕ) → k < n → slice_index text k ≢ 0

-- a byte above 127 stands in the file; those of a byte order mark count
abbrev pub has_high_byte : List ℕ → Bool
has_high_byte bytes = list_any (nat_le 128) bytes

-- the fault of a file as a whole: first that its bytes are no text, at the first byte of the first ill-formed sequence,
-- then a byte 0, then a comment that names another encoding
abbrev pub IsSourceFault : List ℕ → ℕ → SourceCause → Type 0
IsSourceFault bytes n NotUtf8 = (¬ (IsUtf8 (without_mark bytes))) × IsValidUpTo (without_mark bytes) n
IsSourceFault bytes n NulByte = IsUtf8 (without_mark bytes) × IsFirstNul (without_mark bytes) n
IsSourceFault bytes n Coding =
    IsUtf8 (without_mark bytes) × HasNoNul (without_mark bytes) × (has_high_byte bytes ≡ true) × (other_encoding (without_mark bytes) ≡ Some n)

-- the file as a whole has no fault
abbrev pub IsFaultless : List ℕ → Type 0
IsFaultless bytes = (n : ℕ) (cause : SourceCause) → ¬ (IsSourceFault bytes n cause)
