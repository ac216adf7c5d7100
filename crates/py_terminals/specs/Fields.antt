-- An f-string: the token, then its fields, then a mark for its end. A field is a mark, its expression, the fields of its
-- format, and a mark: so that of a field outside formats the last mark stands before the next such field, or at the end.
use Rattle.std.specs.Prelude.{◌≡◌, ◌⊎◌, ℕ, ◌+◌, ◌-◌, Bool, nat_lt, if◌then◌else◌, List, [], ◌∷◌, ◌++◌, filter, Option, Some, None, Ok, Err}
use Rattle.fstr_parse.specs.Bytes.{Text}
use Rattle.fstr_parse.specs.Pieces.{IsCut, IsFirstFault}
use Rattle.fstr_parse.specs.declared.fault.FieldFault.{FieldFault}
use Rattle.fstr_parse.specs.declared.piece.Piece.{Piece}
use Rattle.lint_values.specs.declared.place.Pos.{Pos}
use Rattle.py_grammar.specs.Terminals.{Terminal}
use Rattle.py_grammar.specs.declared.symbol.Symbol.{Symbol}
use Rattle.py_grammar.specs.declared.symbol.Symbol.TheVariants as s
use Rattle.py_source.specs.Places.{pos_from}
use Rattle.py_source.specs.Spans.{bytes_of}
use Rattle.py_token.specs.FirstFault.{IsTextFault}
use Rattle.py_token.specs.Settings.{inside_at}
use Rattle.py_token.specs.Tokenized.{IsRead, Tokenized}
use Rattle.py_token.specs.declared.fault.TokenCause.{TokenCause}
use Rattle.py_token.specs.declared.token.TokenKind.TheVariants.{FStr}
use Rattle.py_terminals.specs.Outcomes.{Behind, Outcome, before, onto}
use Rattle.py_terminals.specs.Strings.{has_letter, inside_of, inside_start}
use Rattle.py_terminals.specs.Tokens.{end_line_of, terminal_of}
use Rattle.py_terminals.specs.declared.field.Places.{Places}

-- what the tokens of an expression come to
abbrev pub Reading : Type 1
Reading = Tokenized → Outcome → Type 0

-- a string that is written so and begins here
pub record Written : Type 0 where
  pub text : Text
  pub pos : Pos

-- the place in the source of a byte inside the quotes
abbrev pub place_in : Written → ℕ → Pos
place_in string place = pos_from string.pos (inside_start string.text + place) string.text

-- a mark, which has no text
abbrev pub mark : Symbol → Pos → Terminal
mark symbol pos = record { symbol = symbol; pos = pos; end_line = pos.line; text = [] }

-- the places of a field: its brace, its expression, and the end of that
abbrev pub places_of : Written → Piece → Places
places_of string piece =
    record { brace = place_in string (piece.start - 1); start = place_in string piece.start; end = place_in string piece.end }

-- the expression of a field
abbrev pub expression : Written → Piece → Text
expression string piece = bytes_of (inside_of string.text) (record { start = piece.start; end = piece.end })

-- the field stands in a format
abbrev pub is_in_format : Piece → Bool
is_in_format piece = nat_lt 0 piece.depth

-- the end of the field that is open, if there is one, which stands where its expression ends
abbrev pub end_of : Option Pos → List Terminal
end_of None = []
end_of (Some pos) = mark s.FieldClose pos ∷ []

-- what stands before a field's expression: its brace, and outside formats before that the end of the field that was open
abbrev pub opening : Bool → Option Pos → Places → List Terminal
opening in_format outer places =
    if in_format then mark s.FieldOpen places.brace ∷ [] else end_of outer ++ mark s.FieldOpen places.brace ∷ []

-- what stands behind a field's expression: in a format the field's end
abbrev pub closing : Bool → Places → List Terminal
closing in_format places = if in_format then mark s.FieldClose places.end ∷ [] else []

-- where the expression ends of the field outside formats that is open behind a field
abbrev pub outer_behind : Bool → Option Pos → Places → Option Pos
outer_behind in_format outer places = if in_format then outer else Some places.end

-- the expression that begins here has tokens, which come to this
pub record IsReadExpression (reading : Reading) (text : Text) (at : Pos) (out : Outcome) : Type 0 where
  pub read : Tokenized
  pub tokens : IsRead (inside_at at) text read
  pub comes_to : reading read out

-- the tokens refuse the expression, for which one terminal stands that no form holds
pub record IsRefusedExpression (text : Text) (at : Pos) (out : Outcome) : Type 0 where
  pub pos : Pos
  pub cause : TokenCause
  pub fault : IsTextFault (inside_at at) text pos cause
  pub comes_to : out ≡ Ok (mark s.BadField at ∷ [])

-- what an expression comes to
abbrev pub IsExpressionRead : Reading → Text → Pos → Outcome → Type 0
IsExpressionRead reading text at out = IsReadExpression reading text at out ⊎ IsRefusedExpression text at out

-- what a field comes to: its expression between what stands before and behind
pub record IsFieldRead (reading : Reading) (text : Text) (places : Places) (in_format : Bool) (outer : Option Pos) (out : Outcome) : Type 0 where
  pub inner : Outcome
  pub expression : IsExpressionRead reading text places.start inner
  pub all : out ≡ onto (opening in_format outer places) (before inner (closing in_format places))

-- the end of a string, which stands where the string begins, and ends where it ends
abbrev pub string_end : Written → Terminal
string_end string = record { symbol = s.FStrEnd; pos = string.pos; end_line = end_line_of string.pos string.text; text = [] }

-- what the fields and the end of the string come to, where a field that is open ends its expression here
abbrev pub AreFields : Reading → Written → Option Pos → List Piece → Outcome → Type 0
AreFields reading string outer [] out = out ≡ Ok (end_of outer ++ string_end string ∷ [])
AreFields reading string outer (piece ∷ pieces) out =
    (field : Outcome)
    × IsFieldRead reading (expression string piece) (places_of string piece) (is_in_format piece) outer field
    × Behind field (AreFields reading string (outer_behind (is_in_format piece) outer (places_of string piece)) pieces) out

abbrev pub is_field : Piece → Bool
is_field piece = piece.field

-- the pieces of the string are refused
pub record IsRefusedString (string : Written) (out : Outcome) : Type 0 where
  pub place : ℕ
  pub fault : FieldFault
  pub first : IsFirstFault (has_letter 114 string.text) (inside_of string.text) place fault
  pub comes_to : out ≡ Err fault

-- the string has pieces, whose fields stand behind its token
pub record IsCutString (reading : Reading) (string : Written) (out : Outcome) : Type 0 where
  pub pieces : List Piece
  pub cut : IsCut (has_letter 114 string.text) (inside_of string.text) pieces
  pub behind : Outcome
  pub fields : AreFields reading string None (filter is_field pieces) behind
  pub comes_to : out ≡ onto (terminal_of FStr string.text string.pos ∷ []) behind

-- what an f-string comes to
abbrev pub IsStringRead : Reading → Written → Outcome → Type 0
IsStringRead reading string out = IsRefusedString string out ⊎ IsCutString reading string out
