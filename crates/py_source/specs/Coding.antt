-- The comment that names an encoding: alone on line 1, or on line 2 behind a first line without code. It holds `coding`,
-- `:` or `=`, blanks, and a name of ASCII letters, digits, `-`, `_` and `.`.
use Rattle.std.specs.Prelude.{ℕ, ◌+◌, Bool, not, ◌&&◌, ◌||◌, ◌==◌, nat_le, nat_eq, if◌then◌else◌, List, [], ◌∷◌, length, drop, map, slice_index, codes, Option, Some, None}
use Rattle.std.specs.List.{prefix_len, take_while, starts_with}
use Rattle.std.specs.Str.{bytes_eq}
use Rattle.std.specs.Char.{to_ascii_lowercase}
use Rattle.py_source.specs.Physical.{first_line, behind_line, whole_line_len}

-- space or tab
abbrev pub is_blank : ℕ → Bool
is_blank b = b == 32 || b == 9

-- what may stand before a comment that is alone on its line: blanks and form feeds
abbrev pub is_indent : ℕ → Bool
is_indent b = is_blank b || b == 12

-- ASCII letters, digits, `-`, `_` and `.`
abbrev pub is_name_byte : ℕ → Bool
is_name_byte b = (nat_le 48 b && nat_le b 57) || ((nat_le 65 b && nat_le b 90) || ((nat_le 97 b && nat_le b 122) || (b == 45 || (b == 95 || b == 46))))

-- `:` or `=`
abbrev pub is_sign : ℕ → Bool
is_sign b = b == 58 || b == 61

-- the text behind the bytes at its front that pass
abbrev pub behind : (ℕ → Bool) → List ℕ → List ℕ
behind p text = drop (prefix_len p text) text

-- `coding` and a sign stand at the front
abbrev pub begins_coding : List ℕ → Bool
begins_coding text = starts_with nat_eq text (codes "coding") && is_sign (slice_index text 6)

-- the name that a text gives at its front behind `coding`, a sign and blanks; empty where it gives none
abbrev pub encoding_at : List ℕ → List ℕ
encoding_at text = if begins_coding text then take_while is_name_byte (behind is_blank (drop 7 text)) else []

-- the name that a comment gives, at the first place where it gives one
abbrev pub encoding_in : List ℕ → List ℕ
encoding_in [] = []
encoding_in (b ∷ text) = if length (encoding_at (b ∷ text)) == 0 then encoding_in text else encoding_at (b ∷ text)

-- names are compared without case, and with `_` as `-`
abbrev pub normal : ℕ → ℕ
normal b = if b == 95 then 45 else to_ascii_lowercase b

-- a name of UTF-8
abbrev pub is_utf8_name : List ℕ → Bool
is_utf8_name name = bytes_eq (map normal name) (codes "utf-8") || bytes_eq (map normal name) (codes "utf8")

-- the line is a comment alone
abbrev pub is_comment_line : List ℕ → Bool
is_comment_line line = slice_index (behind is_indent line) 0 == 35

-- the line has no token: blanks and form feeds, and maybe a comment
abbrev pub has_no_code : List ℕ → Bool
has_no_code line = length (behind is_indent line) == 0 || is_comment_line line

-- the line is a comment alone that names another encoding
abbrev pub names_other : List ℕ → Bool
names_other line =
    let name = encoding_in (behind is_indent line) in is_comment_line line && (not (length name == 0) && not (is_utf8_name name))

-- the place of the first comment of the two lines that names another encoding
abbrev pub other_encoding : List ℕ → Option ℕ
other_encoding text =
    let first = first_line text in
    let second = first_line (behind_line text) in
    if names_other first then Some (prefix_len is_indent first)
    else (if has_no_code first && names_other second then Some (whole_line_len text + prefix_len is_indent second) else None)
