-- A line comes to one outcome at most.
use Rattle.std.proofs.Common.{◌≡◌, ℕ, zero, suc, Bool, List, [], ◌∷◌, sym, ap, ◌∙◌, subst, inl, inr, filter, Option, None, Result, Ok, Err, IfOk, IfErr}
use Rattle.fstr_parse.specs.declared.fault.FieldFault.{FieldFault}
use Rattle.fstr_parse.specs.declared.piece.Piece.{Piece}
use Rattle.fstr_parse.proofs.ReadingLaws.{IsCut-no_fault, IsCut-unique, IsFirstFault-unique}
use Rattle.lint_values.specs.declared.place.Pos.{Pos}
use Rattle.py_grammar.specs.Terminals.{Terminal}
use Rattle.py_token.specs.Settings.{inside_at}
use Rattle.py_token.specs.Tokenized.{Tokenized}
use Rattle.py_token.specs.declared.token.Token.{Token}
use Rattle.py_token.specs.declared.token.TokenKind.{TokenKind}
use Rattle.py_token.specs.declared.token.TokenKind.TheVariants.{FStr, Keyword, Name, Number, Op, Str}
use Rattle.py_token.proofs.OneAnswer.{read_faultless, read_unique}
use Rattle.py_terminals.specs.Answers.{FaultsOnly, GivesOnly, OnField}
use Rattle.py_terminals.specs.Fields.{AreFields, IsExpressionRead, IsFieldRead, IsStringRead, Reading, Written, closing, expression, is_field, is_in_format, opening, outer_behind, places_of}
use Rattle.py_terminals.specs.Lines.{AreRead, IsLine, IsTokenRead, comes_within}
use Rattle.py_terminals.specs.Outcomes.{Behind, Outcome, before, onto}
use Rattle.py_terminals.specs.Strings.{has_letter, inside_of}
use Rattle.py_terminals.specs.Tokens.{terminal_of, written}
use Rattle.py_terminals.specs.declared.fault.LineFault.{LineFault}
use Rattle.py_terminals.specs.declared.fault.LineFault.TheVariants.{Field, Memory}
use Rattle.py_terminals.specs.declared.field.Places.{Places}

-- it comes to one outcome at most
abbrev pub IsOne : (Outcome → Type 0) → Type 0
IsOne ComesTo = (a b : Outcome) → ComesTo a → ComesTo b → a ≡ b

-- tokens are read in one way
abbrev pub IsOneReading : Reading → Type 0
IsOneReading reading = (read : Tokenized) → IsOne (reading read)

behind_one : (first : Outcome) (Rest : Outcome → Type 0) → IsOne Rest → IsOne (Behind first Rest)
behind_one (Ok front) Rest one a b x y = x.2 ∙ ap (onto front) (one x.0 y.0 x.1 y.1) ∙ sym y.2
behind_one (Err fault) Rest one a b x y = x ∙ sym y

-- what comes first is one, and so is what comes behind it
parts_one : (First Rest : Outcome → Type 0) → IsOne First → IsOne Rest → IsOne (λ out. (first : Outcome) × First first × Behind first Rest out)
parts_one First Rest one other a b x y =
    behind_one y.0 Rest other a b (subst (λ first. Behind first Rest a) (one x.0 y.0 x.1 y.1) x.2) y.2

expression_one : (reading : Reading) (text : List ℕ) (at : Pos) → IsOneReading reading → IsOne (IsExpressionRead reading text at)
expression_one reading text at one a b (inl x) (inl y) =
    let same : x.read ≡ y.read = read_unique (inside_at at) text x.read y.read x.tokens y.tokens in
    one y.read a b (subst (λ read. reading read a) same x.comes_to) y.comes_to
expression_one reading text at one a b (inl x) (inr y) = absurd (read_faultless (inside_at at) text x.read y.pos y.cause x.tokens y.fault)
expression_one reading text at one a b (inr x) (inl y) = absurd (read_faultless (inside_at at) text y.read x.pos x.cause y.tokens x.fault)
expression_one reading text at one a b (inr x) (inr y) = x.comes_to ∙ sym y.comes_to

field_one : (reading : Reading) (text : List ℕ) (places : Places) (in_format : Bool) (outer : Option Pos) → IsOneReading reading → IsOne (IsFieldRead reading text places in_format outer)
field_one reading text places in_format outer one a b x y =
    x.all ∙ ap (λ inner. onto (opening in_format outer places) (before inner (closing in_format places))) (expression_one reading text places.start one x.inner y.inner x.expression y.expression) ∙ sym y.all

fields_one : (reading : Reading) (string : Written) (outer : Option Pos) (pieces : List Piece) → IsOneReading reading → IsOne (AreFields reading string outer pieces)
fields_one reading string outer [] one a b x y = x ∙ sym y
fields_one reading string outer (piece ∷ pieces) one a b x y =
    parts_one (IsFieldRead reading (expression string piece) (places_of string piece) (is_in_format piece) outer) (AreFields reading string (outer_behind (is_in_format piece) outer (places_of string piece)) pieces)
    (field_one reading (expression string piece) (places_of string piece) (is_in_format piece) outer one)
    (fields_one reading string (outer_behind (is_in_format piece) outer (places_of string piece)) pieces one)
    a b x y

string_one : (reading : Reading) (string : Written) → IsOneReading reading → IsOne (IsStringRead reading string)
string_one reading string one a b (inl x) (inl y) =
    x.comes_to ∙ ap Err (IsFirstFault-unique (has_letter 114 string.text) (inside_of string.text) x.place y.place x.fault y.fault x.first y.first).1 ∙ sym y.comes_to
string_one reading string one a b (inl x) (inr y) = absurd (IsCut-no_fault (has_letter 114 string.text) (inside_of string.text) y.pieces x.place x.fault y.cut x.first)
string_one reading string one a b (inr x) (inl y) = absurd (IsCut-no_fault (has_letter 114 string.text) (inside_of string.text) x.pieces y.place y.fault x.cut y.first)
string_one reading string one a b (inr x) (inr y) =
    let same : x.pieces ≡ y.pieces = IsCut-unique (has_letter 114 string.text) (inside_of string.text) x.pieces y.pieces x.cut y.cut in
    let fields : x.behind ≡ y.behind = fields_one reading string None (filter is_field y.pieces) one x.behind y.behind (subst (λ ps. AreFields reading string None (filter is_field ps) x.behind) same x.fields) y.fields in
    x.comes_to ∙ ap (onto (terminal_of FStr string.text string.pos ∷ [])) fields ∙ sym y.comes_to

token_one : (reading : Reading) (kind : TokenKind) (text : List ℕ) (pos : Pos) → IsOneReading reading → IsOne (IsTokenRead reading kind text pos)
token_one reading FStr text pos one a b x y = string_one reading (record { text = text; pos = pos }) one a b x y
token_one reading Name text pos one a b x y = x ∙ sym y
token_one reading Keyword text pos one a b x y = x ∙ sym y
token_one reading Number text pos one a b x y = x ∙ sym y
token_one reading Str text pos one a b x y = x ∙ sym y
token_one reading Op text pos one a b x y = x ∙ sym y

tokens_one : (reading : Reading) (text : List ℕ) (tokens : List Token) → IsOneReading reading → IsOne (AreRead reading text tokens)
tokens_one reading text [] one a b x y = x ∙ sym y
tokens_one reading text (token ∷ tokens) one a b x y =
    parts_one (IsTokenRead reading token.kind (written text token) token.pos) (AreRead reading text tokens)
    (token_one reading token.kind (written text token) token.pos one)
    (tokens_one reading text tokens one)
    a b x y

reading_one : (depth : ℕ) → IsOneReading (comes_within depth)
reading_one zero read a b x y = absurd x
reading_one (suc depth) read a b x y = tokens_one (comes_within depth) read.text read.tokens (reading_one depth) a b x y

pub line_one : (read : Tokenized) (line : ℕ) → IsOne (IsLine read line)
line_one read line a b x y = tokens_one _ _ _ (reading_one _) a b x y

-- ---- so that an answer that is right is the only one

pub every_from : (read : Tokenized) (line : ℕ) (answer : Result (List Terminal) LineFault) → IfOk answer (λ given. IsLine read line (Ok given)) → IfErr answer (OnField (λ fault. IsLine read line (Err fault))) → (all : List Terminal) → IsLine read line (Ok all) → GivesOnly answer all
every_from read line (Ok given) value fault all is = let same : Ok given ≡ Ok all = line_one read line (Ok given) (Ok all) value is in cc same
every_from read line (Err (Field found)) value fault all is = let same : Err found ≡ Ok all = line_one read line (Err found) (Ok all) fault is in absurd (cc same)
every_from read line (Err Memory) value fault all is = tt

pub every_fault_from : (read : Tokenized) (line : ℕ) (answer : Result (List Terminal) LineFault) → IfOk answer (λ given. IsLine read line (Ok given)) → IfErr answer (OnField (λ fault. IsLine read line (Err fault))) → (other : FieldFault) → IsLine read line (Err other) → FaultsOnly answer other
every_fault_from read line (Ok given) value fault other is = let same : Ok given ≡ Err other = line_one read line (Ok given) (Err other) value is in absurd (cc same)
every_fault_from read line (Err (Field found)) value fault other is = let same : Err found ≡ Err other = line_one read line (Err found) (Err other) fault is in cc same
every_fault_from read line (Err Memory) value fault other is = tt
