-- The parts of an f-string: literal parts, the heads of fields, and the ends of formats. A format holds parts in its turn,
-- and fields stand outside formats or in one format, but no deeper.
use Rattle.std.specs.Prelude.{◌≡◌, ◌≢◌, ℕ, ◌+◌, ◌-◌, ◌≤◌, ◌<◌, Bool, if◌then◌else◌, ◌⊎◌, List, [], ◌∷◌, drop}
use Rattle.fstr_parse.specs.Bytes.{Text, byte}
use Rattle.fstr_parse.specs.Literals.{IsLiteral}
use Rattle.fstr_parse.specs.Fields.{IsField, IsBadField}
use Rattle.fstr_parse.specs.declared.part.Part.{Part}
use Rattle.fstr_parse.specs.declared.part.Part.TheVariants.{Literal, Head, FormatEnd}
use Rattle.fstr_parse.specs.declared.fault.FieldFault.{FieldFault}
use Rattle.fstr_parse.specs.declared.fault.FieldFault.TheVariants.{Backslash, Comment, Unclosed, EmptyField, BadConversion, LoneBrace, TooNested, Memory}

-- a field may begin here, under so many formats: at a `{`, which outside formats is not doubled, and in one format at most
pub record Opens (depth : ℕ) (text : Text) : Type 0 where
  pub brace : byte text 0 ≡ 123
  pub single : depth ≡ 0 → byte text 1 ≢ 123
  pub nested : depth < 2

-- this part stands here, under so many formats
abbrev pub IsPart : Bool → ℕ → Text → Part → Type 0
IsPart raw depth text (Literal len) = (0 < len) × IsLiteral raw depth text len
IsPart raw depth text (Head field) = Opens depth text × IsField (drop 1 text) field
IsPart raw depth text FormatEnd = (0 < depth) × (byte text 0 ≡ 125)

-- how many bytes a part has
abbrev pub part_len : Part → ℕ
part_len (Literal len) = len
part_len (Head field) = 1 + field.len
part_len FormatEnd = 1

-- how many formats are open behind a part
abbrev pub depth_behind : ℕ → Part → ℕ
depth_behind depth (Literal len) = depth
depth_behind depth (Head field) = if field.formatted then depth + 1 else depth
depth_behind depth FormatEnd = depth - 1

-- the text is these parts, from so many formats to so many, and then the rest
abbrev pub Cuts : Bool → ℕ → Text → List Part → ℕ → Text → Type 0
Cuts raw depth text [] depth' rest = (depth ≡ depth') × (text ≡ rest)
Cuts raw depth text (part ∷ parts) depth' rest =
    IsPart raw depth text part × Cuts raw (depth_behind depth part) (drop (part_len part) text) parts depth' rest

-- this fault stands at the stop, where no part stands under so many formats
abbrev pub IsFaultAt : ℕ → Text → Text → FieldFault → Type 0
IsFaultAt depth text stop LoneBrace =
    (depth ≡ 0) × (byte text 0 ≡ 125) × (byte text 1 ≢ 125) × (stop ≡ text)
IsFaultAt depth text stop TooNested = (2 ≤ depth) × (byte text 0 ≡ 123) × (stop ≡ text)
IsFaultAt depth text stop Unclosed =
    ((0 < depth) × (text ≡ []) × (stop ≡ [])) ⊎ (Opens depth text × IsBadField (drop 1 text) stop Unclosed)
IsFaultAt depth text stop Backslash = Opens depth text × IsBadField (drop 1 text) stop Backslash
IsFaultAt depth text stop Comment = Opens depth text × IsBadField (drop 1 text) stop Comment
IsFaultAt depth text stop EmptyField = Opens depth text × IsBadField (drop 1 text) stop EmptyField
IsFaultAt depth text stop BadConversion = Opens depth text × IsBadField (drop 1 text) stop BadConversion
IsFaultAt depth text stop Memory = ⊥

-- the f-string ends here
abbrev pub IsOver : ℕ → Text → Type 0
IsOver depth text = (depth ≡ 0) × (text ≡ [])
