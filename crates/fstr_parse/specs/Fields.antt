-- Fields, read from behind their `{`: an expression that is not blank, an optional `=`, an optional `!r`, `!s` or `!a`,
-- and then `}`, or the `:` of a format.
use Rattle.std.specs.Prelude.{◌≡◌, ℕ, ◌+◌, ◌≤◌, ◌<◌, Bool, true, false, ◌||◌, ◌==◌, if◌then◌else◌, ◌⊎◌, [], length, drop}
use Rattle.std.specs.List.{prefix_len}
use Rattle.fstr_parse.specs.Bytes.{Text, byte, is_blank, is_conversion}
use Rattle.fstr_parse.specs.Expressions.{IsExpression, IsHalted, equals_len}
use Rattle.fstr_parse.specs.declared.field.Field.{Field}
use Rattle.fstr_parse.specs.declared.fault.FieldFault.{FieldFault}
use Rattle.fstr_parse.specs.declared.fault.FieldFault.TheVariants.{Backslash, Comment, Unclosed, EmptyField, BadConversion, LoneBrace, TooNested, Memory}

-- what stands behind an expression of this length and the `=` that may follow it
abbrev pub behind_equals : ℕ → Text → Text
behind_equals expression text = drop (equals_len (drop expression text)) (drop expression text)

-- the length of a conversion that stands here: `!` and its letter, and 0 where none does
abbrev pub conversion_len : Text → ℕ
conversion_len text = if byte text 0 == 33 then 2 else 0

-- the letter of a conversion that stands here, and 0 where none does
abbrev pub conversion_of : Text → ℕ
conversion_of text = if byte text 0 == 33 then byte text 1 else 0

-- the byte that ends a field's head: `:` where a format follows, and else `}`
abbrev pub closing_of : Bool → ℕ
closing_of formatted = if formatted then 58 else 125

-- `:` or `}`
abbrev pub ends_head : ℕ → Bool
ends_head b = b == 58 || b == 125

-- the head of this field stands here
pub record IsField (text : Text) (field : Field) : Type 0 where
  pub expression : IsExpression text field.expression
  pub some : prefix_len is_blank text < field.expression
  pub conversion : field.convert ≡ conversion_of (behind_equals field.expression text)
  pub known : byte (behind_equals field.expression text) 0 ≡ 33 → is_conversion field.convert ≡ true
  pub closed : byte (behind_equals field.expression text) (conversion_len (behind_equals field.expression text)) ≡ closing_of field.formatted
  pub size : field.len ≡ field.expression + equals_len (drop field.expression text) + conversion_len (behind_equals field.expression text) + 1

-- the expression ends at the stop, and there is none but blanks and line ends
pub record IsEmpty (text stop : Text) : Type 0 where
  pub len : ℕ
  pub expression : IsExpression text len
  pub blank : len ≤ prefix_len is_blank text
  pub here : stop ≡ drop len text

-- the bytes of a conversion that are right: `!`, or `!` with a letter
abbrev pub right_len : Text → ℕ
right_len text = if is_conversion (byte text 1) then 2 else 1

-- the conversion that stands here has no known letter, or neither `:` nor `}` behind it
abbrev pub is_wrong : Text → Bool
is_wrong text = if is_conversion (byte text 1) then (if ends_head (byte text 2) then false else true) else true

-- a conversion stands behind the expression, and is wrong at the stop
pub record IsMisconverted (text stop : Text) : Type 0 where
  pub len : ℕ
  pub expression : IsExpression text len
  pub some : prefix_len is_blank text < len
  pub marked : byte (behind_equals len text) 0 ≡ 33
  pub wrong : is_wrong (behind_equals len text) ≡ true
  pub here : stop ≡ drop (right_len (behind_equals len text)) (behind_equals len text)

-- no field stands here, since this fault stands in it at the stop
abbrev pub IsBadField : Text → Text → FieldFault → Type 0
IsBadField text stop Backslash = IsHalted text stop × (byte stop 0 ≡ 92)
IsBadField text stop Comment = IsHalted text stop × (byte stop 0 ≡ 35)
IsBadField text stop Unclosed = (IsHalted text stop ⊎ IsMisconverted text stop) × (stop ≡ [])
IsBadField text stop EmptyField = IsEmpty text stop
IsBadField text stop BadConversion = IsMisconverted text stop × (0 < length stop)
IsBadField text stop LoneBrace = ⊥
IsBadField text stop TooNested = ⊥
IsBadField text stop Memory = ⊥
