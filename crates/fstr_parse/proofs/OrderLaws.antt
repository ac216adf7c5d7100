-- Pieces stand in order, between characters, and nested no deeper than fields may be.
use Rattle.std.proofs.Common.{◌≡◌, ℕ, ◌+◌, ◌-◌, ◌≤◌, ◌<◌, ◌⊎◌, inl, inr, Bool, true, false, ◌==◌, List, [], ◌∷◌, length, drop, get_or, refl, sym, ap, ◌∙◌, subst, arith, ⊎_elim, IsUtf8}
use Rattle.std.specs.List.{All, AllPairs}
use Rattle.std.specs.Str.{IsCharBoundary}
use Rattle.std.proofs.lemmas.Bool.{eqb-true, and_parts, or_cases, cases_lt, cases_Bool, cond-false}
use Rattle.std.proofs.lemmas.List.{length-drop, drop-drop, get_or-drop}
use Rattle.std.proofs.lemmas.List.Elements.{All-nil, All-cons, All-weaker, All-append}
use Rattle.std.proofs.lemmas.List.Kept.{AllPairs-cons}
use Rattle.std.proofs.lemmas.Str.{IsCharBoundary-start, IsCharBoundary-end, IsCharBoundary-before_ascii, IsCharBoundary-after_ascii}
use Rattle.fstr_parse.specs.Bytes.{Text, byte, is_brace, is_conversion}
use Rattle.fstr_parse.specs.Literals.{IsLiteral}
use Rattle.fstr_parse.specs.Scan.{unit_len}
use Rattle.fstr_parse.specs.Expressions.{is_end, is_mark, equals_len}
use Rattle.fstr_parse.specs.Fields.{IsField, behind_equals, conversion_len, closing_of}
use Rattle.fstr_parse.specs.Parts.{IsPart, Cuts, part_len, depth_behind}
use Rattle.fstr_parse.specs.Pieces.{piece_of, pieces_of, IsCut, IsPieceOf, IsInOrder}
use Rattle.fstr_parse.specs.declared.field.Field.{Field}
use Rattle.fstr_parse.specs.declared.part.Part.{Part}
use Rattle.fstr_parse.specs.declared.part.Part.TheVariants.{Literal, Head, FormatEnd}
use Rattle.fstr_parse.specs.declared.piece.Piece.{Piece}
use Rattle.fstr_parse.proofs.ExpressionLaws.{byte_in}
use Rattle.fstr_parse.proofs.CutLaws.{field_within, part_within, depth_small}
use Rattle.fstr_parse.proofs.UnitLaws.{row_of_literal}
use Rattle.fstr_parse.proofs.StepLaws.{row_of_expression}
use Rattle.fstr_parse.proofs.PartLaws.{brace_stands}

-- an ASCII byte other than NUL stands here
Ascii : Text → Type 0
Ascii text = (0 < byte text 0) × (byte text 0 < 128)

ascii_is : (text : Text) (b : ℕ) → 0 < b → b < 128 → byte text 0 ≡ b → Ascii text
unfolding Ascii
ascii_is text b some small is = (omega arith, omega arith)

mark_ascii : (text : Text) → is_mark text ≡ true → Ascii text
unfolding is_mark
mark_ascii text mark =
    ⊎_elim (λ brace. ascii_is text 125 (omega arith) (omega arith) (eqb-true (byte text 0) 125 brace))
    (λ later. ⊎_elim (λ colon. ascii_is text 58 (omega arith) (omega arith) (eqb-true (byte text 0) 58 colon))
    (λ bang. ascii_is text 33 (omega arith) (omega arith) (eqb-true (byte text 0) 33 (and_parts (byte text 0 == 33) _ bang).0))
    (or_cases (byte text 0 == 58) _ later))
    (or_cases (byte text 0 == 125) _ mark)

end_ascii : (text : Text) → is_end text ≡ true → Ascii text
unfolding is_end equals_len
end_ascii text ends =
    ⊎_elim (λ equals. ascii_is text 61 (omega arith) (omega arith) (eqb-true (byte text 0) 61 equals))
    (λ none.
    let size : equals_len text ≡ 0 = cond-false (byte text 0 == 61) _ 0 none in
    mark_ascii text (subst (λ n. is_mark (drop n text) ≡ true) size ends))
    (cases_Bool (byte text 0 == 61))

-- a text may be cut before an ASCII byte, and behind one
before_ascii : (text : Text) (place : ℕ) → place ≤ length text → Ascii (drop place text) → IsCharBoundary text place
unfolding Ascii
before_ascii text place within ascii =
    let here : byte (drop place text) 0 ≡ get_or text (place + 0) 0 = get_or-drop place text 0 0 in
    let there : byte (drop place text) 0 ≡ byte text place = here ∙ ap (byte text) (let e : place + 0 ≡ place = omega arith in e) in
    IsCharBoundary-before_ascii text place (byte_in text place (byte text place) (omega arith) refl) (omega arith)

behind_ascii : (text : Text) (place : ℕ) → IsUtf8 text → Ascii (drop place text) → IsCharBoundary text (place + 1)
unfolding Ascii
behind_ascii text place utf8 ascii =
    let here : byte (drop place text) 0 ≡ get_or text (place + 0) 0 = get_or-drop place text 0 0 in
    let there : byte (drop place text) 0 ≡ byte text place = here ∙ ap (byte text) (let e : place + 0 ≡ place = omega arith in e) in
    IsCharBoundary-after_ascii text place utf8 (byte_in text place (byte text place) (omega arith) refl) (omega arith)

brace_ascii : (text : Text) → is_brace (byte text 0) ≡ true → Ascii text
brace_ascii text brace =
    ⊎_elim (λ opening. ascii_is text 123 (omega arith) (omega arith) (eqb-true (byte text 0) 123 opening))
    (λ closing. ascii_is text 125 (omega arith) (omega arith) (eqb-true (byte text 0) 125 closing))
    (or_cases (byte text 0 == 123) (byte text 0 == 125) brace)

-- a literal part ends between characters
literal_ends : (raw : Bool) (depth : ℕ) (text : Text) (place len : ℕ) → place ≤ length text → IsLiteral raw depth (drop place text) len → IsCharBoundary text (place + len)
literal_ends raw depth text place len within literal =
    let size : length (drop place text) ≡ length text - place = length-drop place text in
    let row = row_of_literal raw depth (drop place text) len literal in
    let inside : place + len ≤ length text = omega (arith, row.within) in
    let far : drop len (drop place text) ≡ drop (place + len) text = drop-drop len place text in
    let none : unit_len raw depth (drop (place + len) text) ≡ 0 = subst (λ t. unit_len raw depth t ≡ 0) far row.ends in
    let left : length (drop (place + len) text) ≡ length text - (place + len) = length-drop (place + len) text in
    ⊎_elim
    (λ some. before_ascii text (place + len) inside (brace_ascii (drop (place + len) text) (brace_stands raw depth (drop (place + len) text) none some)))
    (λ empty. let whole : length text ≡ place + len = omega arith in subst (IsCharBoundary text) whole (IsCharBoundary-end text))
    (cases_lt 0 (length (drop (place + len) text)))

-- the last byte of a field's head
field_last : (text : Text) (field : Field) (last : ℕ) → IsField text field → last + 1 ≡ field.len → byte text last ≡ closing_of field.formatted
field_last text field last is size =
    let after = drop field.expression text in
    let behind = behind_equals field.expression text in
    let near : byte behind (conversion_len behind) ≡ byte after (equals_len after + conversion_len behind) = get_or-drop (equals_len after) after (conversion_len behind) 0 in
    let far : byte after (equals_len after + conversion_len behind) ≡ byte text (field.expression + (equals_len after + conversion_len behind)) = get_or-drop field.expression text (equals_len after + conversion_len behind) 0 in
    let here : last ≡ field.expression + (equals_len after + conversion_len behind) = omega (arith, is.size) in
    ap (byte text) here ∙ (sym far ∙ (sym near ∙ is.closed))

closing_ascii : (formatted : Bool) → closing_of formatted < 128
closing_ascii true = omega arith
closing_ascii false = omega arith

field_ends : (text : Text) (place : ℕ) (field : Field) → IsUtf8 text → place + 1 ≤ length text → IsField (drop 1 (drop place text)) field → IsCharBoundary text (place + (1 + field.len))
field_ends text place field utf8 within is =
    let inner = drop 1 (drop place text) in
    let fits = field_within inner field is in
    let sizes : length inner ≡ length (drop place text) - 1 = length-drop 1 (drop place text) in
    let size : length (drop place text) ≡ length text - place = length-drop place text in
    let last = field.len - 1 in
    let closing : byte inner last ≡ closing_of field.formatted = field_last inner field last is (omega (arith, fits.1)) in
    let near : byte inner last ≡ byte (drop place text) (1 + last) = get_or-drop 1 (drop place text) last 0 in
    let far : byte (drop place text) (1 + last) ≡ byte text (place + (1 + last)) = get_or-drop place text (1 + last) 0 in
    let there : byte text (place + (1 + last)) ≡ closing_of field.formatted = sym far ∙ (sym near ∙ closing) in
    let inside : place + (1 + last) < length text = omega (arith, fits.0, fits.1) in
    let ascii : byte text (place + (1 + last)) < 128 = omega (arith, closing_ascii field.formatted) in
    let sum : place + (1 + last) + 1 ≡ place + (1 + field.len) = omega (arith, fits.1) in
    subst (IsCharBoundary text) sum (IsCharBoundary-after_ascii text (place + (1 + last)) utf8 inside ascii)

-- a part ends between characters
part_ends : (raw : Bool) (depth : ℕ) (text : Text) (place : ℕ) (part : Part) → IsUtf8 text → place ≤ length text → IsPart raw depth (drop place text) part → IsCharBoundary text (place + part_len part)
part_ends raw depth text place (Literal len) utf8 within is = literal_ends raw depth text place len within is.1
part_ends raw depth text place (Head field) utf8 within is =
    let some : 0 < length (drop place text) = byte_in (drop place text) 0 123 (omega arith) is.0.brace in
    field_ends text place field utf8 (omega (arith, length-drop place text)) is.1
part_ends raw depth text place FormatEnd utf8 within is =
    behind_ascii text place utf8 (ascii_is (drop place text) 125 (omega arith) (omega arith) is.1)

field_converted : (text : Text) (field : Field) → IsField text field → (field.convert ≡ 0) ⊎ ((true ≡ true) × (is_conversion field.convert ≡ true))
field_converted text field is =
    let behind = behind_equals field.expression text in
    ⊎_elim (λ bang. inr (refl, is.known (eqb-true (byte behind 0) 33 bang)))
    (λ none. inl (is.conversion ∙ cond-false (byte behind 0 == 33) (byte behind 1) 0 none))
    (cases_Bool (byte behind 0 == 33))

-- the piece of a part can be sliced out
part_piece : (raw : Bool) (depth : ℕ) (text : Text) (place : ℕ) (part : Part) → IsUtf8 text → place ≤ length text → IsCharBoundary text place → depth ≤ 2 → IsPart raw depth (drop place text) part → All (IsPieceOf text) (piece_of place depth part)
part_piece raw depth text place (Literal len) utf8 within boundary small is =
    All-cons (IsPieceOf text) _ [] (record {
      some = omega (arith, is.0);
      starts = boundary;
      ends = literal_ends raw depth text place len within is.1;
      nested = small;
      converted = inl refl;
    }) (All-nil (IsPieceOf text))
part_piece raw depth text place (Head field) utf8 within boundary small is =
    let inner = drop 1 (drop place text) in
    let opening = ascii_is (drop place text) 123 (omega arith) (omega arith) is.0.brace in
    let fits = part_within raw depth (drop place text) (Head field) is in
    let holds = field_within inner field is.1 in
    let size : length (drop place text) ≡ length text - place = length-drop place text in
    let near : drop field.expression inner ≡ drop (1 + field.expression) (drop place text) = drop-drop field.expression 1 (drop place text) in
    let far : drop (1 + field.expression) (drop place text) ≡ drop (place + (1 + field.expression)) text = drop-drop (1 + field.expression) place text in
    let sum : place + (1 + field.expression) ≡ place + 1 + field.expression = omega arith in
    let all : drop field.expression inner ≡ drop (place + 1 + field.expression) text = near ∙ (far ∙ ap (λ n. drop n text) sum) in
    let ends : is_end (drop (place + 1 + field.expression) text) ≡ true = subst (λ t. is_end t ≡ true) all (row_of_expression inner field.expression is.1.expression).ends in
    let inside : place + 1 + field.expression ≤ length text = omega (arith, fits.1, holds.1) in
    All-cons (IsPieceOf text) _ [] (record {
      some = omega (arith, is.1.some);
      starts = behind_ascii text place utf8 opening;
      ends = before_ascii text (place + 1 + field.expression) inside (end_ascii (drop (place + 1 + field.expression) text) ends);
      nested = omega (arith, is.0.nested);
      converted = field_converted inner field is.1;
    }) (All-nil (IsPieceOf text))
part_piece raw depth text place FormatEnd utf8 within boundary small is = All-nil (IsPieceOf text)

abbrev From : ℕ → Piece → Type 0
From place piece = place ≤ piece.start

abbrev Apart : Piece → Piece → Type 0
Apart earlier later = earlier.end ≤ later.start

from_later : (place later : ℕ) → place ≤ later → (pieces : List Piece) → All (From later) pieces → All (From place) pieces
from_later place later le pieces all = All-weaker (From later) (From place) (λ piece h. omega arith) pieces all

-- no piece begins before the first part
starts_from : (place depth : ℕ) (parts : List Part) → All (From place) (pieces_of place depth parts)
starts_from place depth [] = All-nil (From place)
starts_from place depth (Literal len ∷ parts) =
    All-cons (From place) _ _ (omega arith) (from_later place (place + len) (omega arith) _ (starts_from (place + len) depth parts))
starts_from place depth (Head field ∷ parts) =
    All-cons (From place) _ _ (omega arith) (from_later place (place + (1 + field.len)) (omega arith) _ (starts_from (place + (1 + field.len)) (depth_behind depth (Head field)) parts))
starts_from place depth (FormatEnd ∷ parts) =
    from_later place (place + 1) (omega arith) _ (starts_from (place + 1) (depth - 1) parts)

-- each piece stands behind those before it
pieces_apart : (raw : Bool) (place depth : ℕ) (text : Text) (parts : List Part) (depth' : ℕ) (rest : Text) → Cuts raw depth text parts depth' rest → AllPairs Apart (pieces_of place depth parts)
pieces_apart raw place depth text [] depth' rest cut = λ i j d lt within. absurd (omega arith)
pieces_apart raw place depth text (Literal len ∷ parts) depth' rest cut =
    AllPairs-cons Apart _ _ (starts_from (place + len) depth parts)
    (pieces_apart raw (place + len) depth (drop len text) parts depth' rest cut.1)
pieces_apart raw place depth text (Head field ∷ parts) depth' rest cut =
    let holds = field_within (drop 1 text) field cut.0.1 in
    AllPairs-cons Apart _ _ (from_later (place + 1 + field.expression) (place + (1 + field.len)) (omega (arith, holds.1)) _ (starts_from (place + (1 + field.len)) (depth_behind depth (Head field)) parts))
    (pieces_apart raw (place + (1 + field.len)) (depth_behind depth (Head field)) (drop (1 + field.len) text) parts depth' rest cut.1)
pieces_apart raw place depth text (FormatEnd ∷ parts) depth' rest cut =
    pieces_apart raw (place + 1) (depth - 1) (drop 1 text) parts depth' rest cut.1

-- each piece can be sliced out
pieces_each : (raw : Bool) (text : Text) (place depth : ℕ) (parts : List Part) (depth' : ℕ) (rest : Text) → IsUtf8 text → place ≤ length text → IsCharBoundary text place → depth ≤ 2 → Cuts raw depth (drop place text) parts depth' rest → All (IsPieceOf text) (pieces_of place depth parts)
pieces_each raw text place depth [] depth' rest utf8 within boundary small cut = All-nil (IsPieceOf text)
pieces_each raw text place depth (part ∷ parts) depth' rest utf8 within boundary small cut =
    let fits = part_within raw depth (drop place text) part cut.0 in
    let inside : place + part_len part ≤ length text = omega (arith, fits.1, length-drop place text) in
    let later : Cuts raw (depth_behind depth part) (drop (place + part_len part) text) parts depth' rest =
    subst (λ t. Cuts raw (depth_behind depth part) t parts depth' rest) (drop-drop (part_len part) place text) cut.1 in
    All-append (IsPieceOf text) (piece_of place depth part) (pieces_of (place + part_len part) (depth_behind depth part) parts)
    (part_piece raw depth text place part utf8 within boundary small cut.0)
    (pieces_each raw text (place + part_len part) (depth_behind depth part) parts depth' rest utf8 inside (part_ends raw depth text place part utf8 within cut.0) (depth_small raw depth (drop place text) part cut.0 small) later)

-- the pieces of a text stand in order
pub IsCut-in_order : (raw : Bool) (text : Text) (pieces : List Piece) → IsUtf8 text → IsCut raw text pieces → IsInOrder text pieces
IsCut-in_order raw text pieces utf8 is = subst (IsInOrder text) (sym is.are) (record {
  each = pieces_each raw text 0 0 is.parts 0 [] utf8 (omega arith) (IsCharBoundary-start text utf8) (omega arith) is.cut;
  apart = pieces_apart raw 0 0 text is.parts 0 [] is.cut;
})
