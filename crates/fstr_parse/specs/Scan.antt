-- What the code finds from place to place: the same units, strings and steps by their lengths. Nothing public rests on
-- these definitions; the laws in proofs/ join them to the ones that are.
use Rattle.std.specs.Prelude.{◌≡◌, ℕ, zero, suc, ◌+◌, ◌≤◌, ◌<◌, Bool, true, false, ◌&&◌, ◌||◌, ◌==◌, if◌then◌else◌, min, [], ◌∷◌, length, drop}
use Rattle.std.specs.List.{prefix_len}
use Rattle.fstr_parse.specs.Bytes.{Text, byte, is_brace, is_quote}
use Rattle.fstr_parse.specs.Literals.{is_in_name, names_character, same_depth}
use Rattle.fstr_parse.specs.declared.part.Part.{Part}
use Rattle.fstr_parse.specs.declared.part.Part.TheVariants.{Literal, Head, FormatEnd}
use Rattle.fstr_parse.specs.Expressions.{is_end, quotes_len, are_quotes, ends_at, brackets_behind}

-- so many steps lead from the text to the rest; a step is as long as `len` says of the place where it begins
abbrev pub Leads : (ℕ → Text → ℕ) → (ℕ → Text → ℕ) → ℕ → ℕ → Text → ℕ → Text → Type 0
Leads len behind zero level text level' rest = (level ≡ level') × (text ≡ rest)
Leads len behind (suc steps) level text level' rest =
    (0 < len level text) × Leads len behind steps (behind level text) (drop (len level text) text) level' rest

-- the length of a unit that begins with a backslash
unfoldable pub escape_len : Bool → Text → ℕ
escape_len raw text =
    if names_character raw text then min (length text) (4 + prefix_len is_in_name (drop 3 text))
    else (if length text == 1 || is_brace (byte text 1) then 1 else 2)

-- the length of the unit of a literal part that stands here, and 0 where none does
unfoldable pub unit_len : Bool → ℕ → Text → ℕ
unit_len raw depth text =
    if length text == 0 then 0
    else (if is_brace (byte text 0) then (if depth == 0 && byte text 1 == byte text 0 then 2 else 0)
    else (if byte text 0 == 92 then escape_len raw text else 1))

-- units lead from the text to what stands so many bytes further, and none stands there
pub record LiteralRow (raw : Bool) (depth : ℕ) (text : Text) (len : ℕ) : Type 0 where
  pub units : ℕ
  pub within : len ≤ length text
  pub row : Leads (unit_len raw) same_depth units depth text depth (drop len text)
  pub ends : unit_len raw depth (drop len text) ≡ 0

-- how many bytes stand before the first of the string's closing quotes, a backslash, and the text's end
abbrev pub body_len : ℕ → ℕ → Text → ℕ
body_len quote count [] = 0
body_len quote count (b ∷ text) =
    if are_quotes quote count (b ∷ text) || b == 92 then 0 else 1 + body_len quote count text

-- the length of a string that begins here, as far as its closing quotes, a backslash or the text's end
unfoldable pub opened_len : Text → ℕ
opened_len text =
    if is_quote (byte text 0) then quotes_len text + body_len (byte text 0) (quotes_len text) (drop (quotes_len text) text) else 0

-- the length of the string that stands here, and 0 where it holds a backslash or is not closed
unfoldable pub string_len : Text → ℕ
string_len text =
    if are_quotes (byte text 0) (quotes_len text) (drop (opened_len text) text) then opened_len text + quotes_len text else 0

-- the length of the step of an expression that stands here, in which so many brackets are open: a whole string, or any
-- byte but a backslash and a `#`; and 0 where the expression ends or can't go on
unfoldable pub step_len : ℕ → Text → ℕ
step_len brackets text =
    if ends_at brackets text || (length text == 0 || (byte text 0 == 92 || byte text 0 == 35)) then 0
    else (if is_quote (byte text 0) then string_len text else 1)

-- steps lead from the text to what stands so many bytes further, and an expression ends there
pub record ExpressionRow (text : Text) (len : ℕ) : Type 0 where
  pub steps : ℕ
  pub within : len ≤ length text
  pub row : Leads step_len brackets_behind steps 0 text 0 (drop len text)
  pub ends : is_end (drop len text) ≡ true

-- steps lead from the text to a rest where none stands, and neither does an end
pub record HaltRow (text stop : Text) : Type 0 where
  pub steps : ℕ
  pub brackets : ℕ
  pub rest : Text
  pub row : Leads step_len brackets_behind steps 0 text brackets rest
  pub halts : step_len brackets rest ≡ 0
  pub unended : ends_at brackets rest ≡ false
  pub here : stop ≡ drop (opened_len rest) rest

-- a field's head is longer than its expression
abbrev pub HoldsExpression : Part → Type 0
HoldsExpression (Literal len) = Unit {0}
HoldsExpression (Head field) = field.expression < field.len
HoldsExpression FormatEnd = Unit {0}
