-- What a logical line comes to: its terminals, or the fault of its first string whose pieces are refused.
use Rattle.std.specs.Prelude.{◌≡◌, ℕ, zero, suc, ◌-◌, List, [], ◌∷◌, length, take, drop, slice_index_or, Ok}
use Rattle.fstr_parse.specs.Bytes.{Text}
use Rattle.py_layout.specs.declared.logical.Logical.{Logical}
use Rattle.py_token.specs.Tokenized.{Tokenized}
use Rattle.py_token.specs.declared.token.Token.{Token}
use Rattle.py_token.specs.declared.token.TokenKind.{TokenKind}
use Rattle.py_token.specs.declared.token.TokenKind.TheVariants.{Name, Keyword, Number, Str, FStr, Op}
use Rattle.lint_values.specs.declared.place.Pos.{Pos}
use Rattle.py_terminals.specs.Fields.{IsStringRead, Reading}
use Rattle.py_terminals.specs.Outcomes.{Behind, Outcome}
use Rattle.py_terminals.specs.Tokens.{terminal_of, written}

-- what a token of this kind comes to that is written so: an f-string has fields, and any other token is one terminal
abbrev pub IsTokenRead : Reading → TokenKind → Text → Pos → Outcome → Type 0
IsTokenRead reading FStr text pos out = IsStringRead reading (record { text = text; pos = pos }) out
IsTokenRead reading Name text pos out = out ≡ Ok (terminal_of Name text pos ∷ [])
IsTokenRead reading Keyword text pos out = out ≡ Ok (terminal_of Keyword text pos ∷ [])
IsTokenRead reading Number text pos out = out ≡ Ok (terminal_of Number text pos ∷ [])
IsTokenRead reading Str text pos out = out ≡ Ok (terminal_of Str text pos ∷ [])
IsTokenRead reading Op text pos out = out ≡ Ok (terminal_of Op text pos ∷ [])

-- what tokens come to, one behind the other
abbrev pub AreRead : Reading → Text → List Token → Outcome → Type 0
AreRead reading text [] out = out ≡ Ok []
AreRead reading text (token ∷ tokens) out =
    (first : Outcome) × IsTokenRead reading token.kind (written text token) token.pos first × Behind first (AreRead reading text tokens) out

-- what all the tokens of an expression come to, where strings stand in the fields of strings at most so deep
abbrev pub comes_within : ℕ → Reading
comes_within zero read out = ⊥
comes_within (suc depth) read out = AreRead (comes_within depth) read.text read.tokens out

-- the tokens from one number on up to another
abbrev pub tokens_between : Tokenized → ℕ → ℕ → List Token
tokens_between read first end = take (end - first) (drop first read.tokens)

-- what some of a source's tokens come to; a string in a field is shorter than the source, so that no depth is left out
abbrev pub IsStretch : Tokenized → ℕ → ℕ → Outcome → Type 0
IsStretch read first end out = AreRead (comes_within (length read.text)) read.text (tokens_between read first end) out

-- what stands where there is no logical line
abbrev pub no_line : Logical
no_line = record { first = 0; end = 0; level = 0 }

-- what the logical line of this number comes to
abbrev pub IsLine : Tokenized → ℕ → Outcome → Type 0
IsLine read line out =
    IsStretch read (slice_index_or read.lines line no_line).first (slice_index_or read.lines line no_line).end out
