-- What the code finds where an expression halts, and at a conversion from its `!` on.
use Rattle.std.specs.Prelude.{◌≡◌, ℕ, true, ◌==◌, if◌then◌else◌, nat_lt, length}
use Rattle.fstr_parse.specs.Bytes.{Text, byte, is_conversion}
use Rattle.fstr_parse.specs.Fields.{ends_head, is_wrong, right_len}
use Rattle.fstr_parse.specs.declared.fault.FieldFault.{FieldFault}
use Rattle.fstr_parse.specs.declared.fault.FieldFault.TheVariants.{Backslash, Comment, Unclosed, BadConversion}

-- the fault of an expression that halts before this text
abbrev pub halt_fault : Text → FieldFault
halt_fault stop =
    if byte stop 0 == 92 then Backslash else (if byte stop 0 == 35 then Comment else Unclosed)

-- the fault of a conversion that is wrong at this place
abbrev pub wrong_at : Text → ℕ → FieldFault
wrong_at text place = if nat_lt place (length text) then BadConversion else Unclosed

-- the letter of a conversion that is right
abbrev pub IsConversion : Text → ℕ → Type 0
IsConversion text letter = (letter ≡ byte text 1) × (is_conversion letter ≡ true) × (ends_head (byte text 2) ≡ true)

-- the fault of one that is wrong
abbrev pub IsWrongConversion : Text → FieldFault → Type 0
IsWrongConversion text fault = (is_wrong text ≡ true) × (fault ≡ wrong_at text (right_len text))
