-- Turns of the loops over tokens and fields, and what a string and an expression come to.
use Rattle.std.proofs.Common.{◌≡◌, ℕ, zero, suc, ◌+◌, ◌-◌, ◌<◌, ◌≤◌, Bool, true, List, [], ◌∷◌, ◌++◌, length, take, drop, get_or, filter, cond, refl, sym, ap, ◌∙◌, subst, arith, append_assoc, append-nil, inl, inr, Option, Some, None, Result, Ok, Err, slice_get}
use Rattle.std.proofs.lemmas.List.{drop_more, drop_all, take_all}
use Rattle.std.proofs.lemmas.Option.{get_or_from_slice_get, slice_get_within}
use Rattle.fstr_parse.specs.Pieces.{IsCut}
use Rattle.fstr_parse.specs.declared.fault.FieldFault.{FieldFault}
use Rattle.fstr_parse.specs.declared.piece.Piece.{Piece}
use Rattle.lint_values.specs.declared.place.Pos.{Pos}
use Rattle.py_grammar.specs.Terminals.{Terminal}
use Rattle.py_token.specs.Settings.{inside_at}
use Rattle.py_token.specs.Tokenized.{IsRead, Tokenized}
use Rattle.py_token.specs.declared.token.Token.{Token}
use Rattle.py_token.specs.declared.token.TokenKind.TheVariants.{FStr}
use Rattle.py_terminals.specs.Answers.{Adds, AreAdded, OnField}
use Rattle.py_terminals.specs.Fields.{AreFields, IsExpressionRead, IsFieldRead, IsStringRead, Reading, Written, end_of, expression, is_field, is_in_format, outer_behind, places_of, string_end}
use Rattle.py_terminals.specs.Lines.{AreRead, IsTokenRead, comes_within, tokens_between}
use Rattle.py_terminals.specs.Outcomes.{Outcome}
use Rattle.py_terminals.specs.Strings.{has_letter, inside_of}
use Rattle.py_terminals.specs.Tokens.{terminal_of, written}
use Rattle.py_terminals.specs.declared.fault.LineFault.{LineFault}
use Rattle.py_terminals.specs.declared.fault.LineFault.TheVariants.{Field, Memory}
use Rattle.py_terminals.specs.declared.field.Places.{Places}
use Rattle.py_terminals.proofs.AddingLaws.{SoFar, so_far_end, so_far_fault, so_far_more}

-- a fault of a part is one of the whole
pub on_fault : (Part Whole : Outcome → Type 0) (fault : LineFault) → ((found : FieldFault) → Part (Err found) → Whole (Err found)) → OnField (λ found. Part (Err found)) fault → OnField (λ found. Whole (Err found)) fault
on_fault Part Whole (Field found) goes part = goes found part
on_fault Part Whole Memory goes part = tt

-- what adds the one adds the other
pub adds_as : (Part Whole : Outcome → Type 0) (old new : List Terminal) (result : Result (Unit {0}) LineFault) → ((out : Outcome) → Part out → Whole out) → Adds Part old new result → Adds Whole old new result
adds_as Part Whole old new (Ok u) goes added = record { terminals = added.terminals; come = goes (Ok added.terminals) added.come; behind = added.behind }
adds_as Part Whole old new (Err fault) goes part = on_fault Part Whole fault (λ found. goes (Err found)) part

-- ---- tokens

between_more : (tokens : List Token) (end i : ℕ) (token : Token) → i < end → slice_get tokens i ≡ Some token → take (end - i) (drop i tokens) ≡ token ∷ take (end - (i + 1)) (drop (i + 1) tokens)
between_more tokens end i token before here =
    let size : end - i ≡ suc (end - (i + 1)) = omega arith in
    let first : get_or tokens i token ≡ token = get_or_from_slice_get tokens i token token here in
    ap (take (end - i)) (drop_more tokens i token (slice_get_within tokens i token here)) ∙ ap (λ n. take n (get_or tokens i token ∷ drop (i + 1) tokens)) size ∙ ap (λ t. t ∷ take (end - (i + 1)) (drop (i + 1) tokens)) first

pub tokens_more : (reading : Reading) (text : List ℕ) (tokens : List Token) (end i : ℕ) (token : Token) (Whole : Outcome → Type 0) (old now new : List Terminal) → i < end → slice_get tokens i ≡ Some token → SoFar Whole (AreRead reading text (take (end - i) (drop i tokens))) old now → AreAdded (IsTokenRead reading token.kind (written text token) token.pos) now new → SoFar Whole (AreRead reading text (take (end - (i + 1)) (drop (i + 1) tokens))) old new
tokens_more reading text tokens end i token Whole old now new before here so_far part =
    so_far_more Whole (IsTokenRead reading token.kind (written text token) token.pos) (AreRead reading text (take (end - (i + 1)) (drop (i + 1) tokens))) old now new
    (subst (λ ts. SoFar Whole (AreRead reading text ts) old now) (between_more tokens end i token before here) so_far)
    part

pub tokens_fault : (reading : Reading) (text : List ℕ) (tokens : List Token) (end i : ℕ) (token : Token) (Whole : Outcome → Type 0) (old now : List Terminal) (fault : FieldFault) → i < end → slice_get tokens i ≡ Some token → SoFar Whole (AreRead reading text (take (end - i) (drop i tokens))) old now → IsTokenRead reading token.kind (written text token) token.pos (Err fault) → Whole (Err fault)
tokens_fault reading text tokens end i token Whole old now fault before here so_far part =
    so_far_fault Whole (IsTokenRead reading token.kind (written text token) token.pos) (AreRead reading text (take (end - (i + 1)) (drop (i + 1) tokens))) old now fault
    (subst (λ ts. SoFar Whole (AreRead reading text ts) old now) (between_more tokens end i token before here) so_far)
    part

take_none : (n : ℕ) → let none : List Token = [] in take n none ≡ none
take_none zero = refl
take_none (suc n) = refl

-- no token is left
pub tokens_end : (reading : Reading) (text : List ℕ) (tokens : List Token) (end i : ℕ) (Whole : Outcome → Type 0) (old now : List Terminal) → take (end - i) (drop i tokens) ≡ [] → SoFar Whole (AreRead reading text (take (end - i) (drop i tokens))) old now → AreAdded Whole old now
tokens_end reading text tokens end i Whole old now none so_far =
    so_far_end Whole old now now [] (subst (λ ts. SoFar Whole (AreRead reading text ts) old now) none so_far) (sym (append-nil now))

pub past_end : (tokens : List Token) (end i : ℕ) → end ≤ i → take (end - i) (drop i tokens) ≡ []
past_end tokens end i past = let none : end - i ≡ 0 = omega arith in ap (λ n. take n (drop i tokens)) none

pub past_all : (tokens : List Token) (end i : ℕ) → length tokens ≤ i → take (end - i) (drop i tokens) ≡ []
past_all tokens end i past = ap (take (end - i)) (drop_all i tokens past) ∙ take_none (end - i)

-- ---- fields

fields_left : (whole : List Piece) (i : ℕ) (d : Piece) → i < length whole → is_field (get_or whole i d) ≡ true → filter is_field (drop i whole) ≡ get_or whole i d ∷ filter is_field (drop (i + 1) whole)
fields_left whole i d within field =
    ap (filter is_field) (drop_more whole i d within) ∙ ap (λ b. cond b (get_or whole i d ∷ filter is_field (drop (i + 1) whole)) (filter is_field (drop (i + 1) whole))) field

-- a field of a string, by its parts
pub record IsHere (string : Written) (piece : Piece) (text : List ℕ) (places : Places) (in_format : Bool) : Type 0 where
  pub is_text : text ≡ expression string piece
  pub are_places : places ≡ places_of string piece
  pub is_format : in_format ≡ is_in_format piece

read_here : (reading : Reading) (string : Written) (piece : Piece) (text : List ℕ) (places : Places) (in_format : Bool) (outer : Option Pos) (out : Outcome) → IsHere string piece text places in_format → IsFieldRead reading text places in_format outer out → IsFieldRead reading (expression string piece) (places_of string piece) (is_in_format piece) outer out
read_here reading string piece text places in_format outer out here read =
    subst (λ f. IsFieldRead reading (expression string piece) (places_of string piece) f outer out) here.is_format (subst (λ p. IsFieldRead reading (expression string piece) p in_format outer out) here.are_places (subst (λ t. IsFieldRead reading t places in_format outer out) here.is_text read))

pub fields_more : (reading : Reading) (string : Written) (whole : List Piece) (i : ℕ) (d : Piece) (text : List ℕ) (places : Places) (in_format : Bool) (outer next : Option Pos) (Whole : Outcome → Type 0) (old now new : List Terminal) → i < length whole → is_field (get_or whole i d) ≡ true → IsHere string (get_or whole i d) text places in_format → next ≡ outer_behind in_format outer places → SoFar Whole (AreFields reading string outer (filter is_field (drop i whole))) old now → AreAdded (IsFieldRead reading text places in_format outer) now new → SoFar Whole (AreFields reading string next (filter is_field (drop (i + 1) whole))) old new
fields_more reading string whole i d text places in_format outer next Whole old now new within field here is_next so_far part =
    let piece = get_or whole i d in
    let rest = filter is_field (drop (i + 1) whole) in
    let goes : outer_behind (is_in_format piece) outer (places_of string piece) ≡ next = ap (λ f. outer_behind f outer (places_of string piece)) (sym here.is_format) ∙ ap (outer_behind in_format outer) (sym here.are_places) ∙ sym is_next in
    subst (λ o. SoFar Whole (AreFields reading string o rest) old new) goes
    (so_far_more Whole (IsFieldRead reading (expression string piece) (places_of string piece) (is_in_format piece) outer) (AreFields reading string (outer_behind (is_in_format piece) outer (places_of string piece)) rest) old now new
    (subst (λ ps. SoFar Whole (AreFields reading string outer ps) old now) (fields_left whole i d within field) so_far)
    (record { terminals = part.terminals; come = read_here reading string piece text places in_format outer (Ok part.terminals) here part.come; behind = part.behind }))

pub fields_fault : (reading : Reading) (string : Written) (whole : List Piece) (i : ℕ) (d : Piece) (text : List ℕ) (places : Places) (in_format : Bool) (outer : Option Pos) (Whole : Outcome → Type 0) (old now : List Terminal) (fault : FieldFault) → i < length whole → is_field (get_or whole i d) ≡ true → IsHere string (get_or whole i d) text places in_format → SoFar Whole (AreFields reading string outer (filter is_field (drop i whole))) old now → IsFieldRead reading text places in_format outer (Err fault) → Whole (Err fault)
fields_fault reading string whole i d text places in_format outer Whole old now fault within field here so_far part =
    let piece = get_or whole i d in
    so_far_fault Whole (IsFieldRead reading (expression string piece) (places_of string piece) (is_in_format piece) outer) (AreFields reading string (outer_behind (is_in_format piece) outer (places_of string piece)) (filter is_field (drop (i + 1) whole))) old now fault
    (subst (λ ps. SoFar Whole (AreFields reading string outer ps) old now) (fields_left whole i d within field) so_far)
    (read_here reading string piece text places in_format outer (Err fault) here part)

pub fields_end : (reading : Reading) (string : Written) (whole : List Piece) (i : ℕ) (outer : Option Pos) (Whole : Outcome → Type 0) (old now new : List Terminal) → length whole ≤ i → SoFar Whole (AreFields reading string outer (filter is_field (drop i whole))) old now → new ≡ now ++ (end_of outer ++ string_end string ∷ []) → AreAdded Whole old new
fields_end reading string whole i outer Whole old now new past so_far is_new =
    so_far_end Whole old now new (end_of outer ++ string_end string ∷ []) (subst (λ ps. SoFar Whole (AreFields reading string outer (filter is_field ps)) old now) (drop_all i whole past) so_far) is_new

-- ---- a string, and an expression

pub string_adds : (reading : Reading) (string : Written) (pieces named : List Piece) (old now new : List Terminal) (result : Result (Unit {0}) LineFault) → IsCut (has_letter 114 string.text) (inside_of string.text) pieces → named ≡ pieces → now ≡ old ++ terminal_of FStr string.text string.pos ∷ [] → Adds (AreFields reading string None (filter is_field named)) now new result → Adds (IsStringRead reading string) old new result
string_adds reading string pieces named old now new (Ok u) cut is_named is_now added = record {
  terminals = terminal_of FStr string.text string.pos ∷ added.terminals;
  come = inr (record { pieces = pieces; cut = cut; behind = Ok added.terminals; fields = subst (λ ps. AreFields reading string None (filter is_field ps) (Ok added.terminals)) is_named added.come; comes_to = refl });
  behind = added.behind ∙ ap (λ xs. xs ++ added.terminals) is_now ∙ append_assoc old (terminal_of FStr string.text string.pos ∷ []) added.terminals;
}
string_adds reading string pieces named old now new (Err (Field fault)) cut is_named is_now added =
    inr (record { pieces = pieces; cut = cut; behind = Err fault; fields = subst (λ ps. AreFields reading string None (filter is_field ps) (Err fault)) is_named added; comes_to = refl })
string_adds reading string pieces named old now new (Err Memory) cut is_named is_now added = tt

all_between : (read : Tokenized) (count : ℕ) → count ≡ length read.tokens → tokens_between read 0 count ≡ read.tokens
all_between read count is_count = take_all (count - 0) read.tokens (omega arith)

pub expression_adds : (left : ℕ) (text : List ℕ) (at : Pos) (read : Tokenized) (count : ℕ) (old new : List Terminal) (result : Result (Unit {0}) LineFault) → 0 < left → IsRead (inside_at at) text read → count ≡ length read.tokens → Adds (AreRead (comes_within (left - 1)) read.text (tokens_between read 0 count)) old new result → Adds (IsExpressionRead (comes_within left) text at) old new result
expression_adds left text at read count old new result some is is_count added =
    let size : suc (left - 1) ≡ left = omega arith in
    adds_as (AreRead (comes_within (left - 1)) read.text (tokens_between read 0 count)) (IsExpressionRead (comes_within left) text at) old new result
    (λ out comes. inl (record { read = read; tokens = is; comes_to = subst (λ n. comes_within n read out) size (subst (λ ts. AreRead (comes_within (left - 1)) read.text ts out) (all_between read count is_count) comes) }))
    added
