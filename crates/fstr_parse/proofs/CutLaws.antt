-- Rows of parts: one part more, and its piece.
use Rattle.std.proofs.Common.{◌≡◌, ℕ, ◌+◌, ◌-◌, ◌≤◌, ◌<◌, Bool, List, [], ◌∷◌, ◌++◌, length, drop, refl, sym, ap, ◌∙◌, arith}
use Rattle.std.proofs.lemmas.Bool.{cond_both}
use Rattle.std.proofs.lemmas.List.{length-drop, append_assoc, append-nil}
use Rattle.fstr_parse.specs.Bytes.{Text}
use Rattle.fstr_parse.specs.Expressions.{equals_len}
use Rattle.fstr_parse.specs.Fields.{IsField, behind_equals, conversion_len, closing_of}
use Rattle.fstr_parse.specs.Parts.{IsPart, Cuts, part_len, depth_behind}
use Rattle.fstr_parse.specs.Scan.{HoldsExpression}
use Rattle.fstr_parse.specs.Pieces.{piece_of, pieces_of}
use Rattle.fstr_parse.specs.declared.field.Field.{Field}
use Rattle.fstr_parse.specs.declared.part.Part.{Part}
use Rattle.fstr_parse.specs.declared.part.Part.TheVariants.{Literal, Head, FormatEnd}
use Rattle.fstr_parse.proofs.UnitLaws.{row_of_literal}
use Rattle.fstr_parse.proofs.ExpressionLaws.{byte_in}

closing_some : (formatted : Bool) → 0 < closing_of formatted
closing_some formatted = cond_both formatted 58 125 (λ n. 0 < n) (λ _. omega arith) (λ _. omega arith)

-- a field's head lies within the text
pub field_within : (text : Text) (field : Field) → IsField text field → (field.len ≤ length text) × (field.expression < field.len)
field_within text field is =
    let after = drop field.expression text in
    let behind = behind_equals field.expression text in
    let closes : conversion_len behind < length behind = byte_in behind (conversion_len behind) (closing_of field.formatted) (closing_some field.formatted) is.closed in
    let size : length behind ≡ length after - equals_len after = length-drop (equals_len after) after in
    let sizes : length after ≡ length text - field.expression = length-drop field.expression text in
    (omega (arith, is.size), omega (arith, is.size))

-- a part is not empty, and lies within the text
pub part_within : (raw : Bool) (depth : ℕ) (text : Text) (part : Part) → IsPart raw depth text part → (0 < part_len part) × (part_len part ≤ length text)
part_within raw depth text (Literal len) is = (is.0, (row_of_literal raw depth text len is.1).within)
part_within raw depth text (Head field) is =
    let some : 0 < length text = byte_in text 0 123 (omega arith) is.0.brace in
    let within = field_within (drop 1 text) field is.1 in
    (omega arith, omega (arith, within.0, length-drop 1 text))
part_within raw depth text FormatEnd is =
    let some : 0 < length text = byte_in text 0 125 (omega arith) is.1 in
    (omega arith, omega arith)

pub part_holds : (raw : Bool) (depth : ℕ) (text : Text) (part : Part) → IsPart raw depth text part → HoldsExpression part
part_holds raw depth text (Literal len) is = tt
part_holds raw depth text (Head field) is = (field_within (drop 1 text) field is.1).1
part_holds raw depth text FormatEnd is = tt

-- no more than two formats are open
pub depth_small : (raw : Bool) (depth : ℕ) (text : Text) (part : Part) → IsPart raw depth text part → depth ≤ 2 → depth_behind depth part ≤ 2
depth_small raw depth text (Literal len) is small = small
depth_small raw depth text (Head field) is small =
    let nested : depth < 2 = is.0.nested in
    cond_both field.formatted (depth + 1) depth (λ n. n ≤ 2) (λ _. omega arith) (λ _. small)
depth_small raw depth text FormatEnd is small = omega arith

-- a row of parts and one more
pub Cuts-push : (raw : Bool) (depth : ℕ) (text : Text) (parts : List Part) (depth' : ℕ) (rest : Text) (part : Part) → Cuts raw depth text parts depth' rest → IsPart raw depth' rest part → Cuts raw depth text (parts ++ part ∷ []) (depth_behind depth' part) (drop (part_len part) rest)
Cuts-push raw depth text [] depth' rest part cut is =
    rw (cut.0, cut.1) (is, (refl, refl))
Cuts-push raw depth text (first ∷ parts) depth' rest part cut is =
    (cut.0, Cuts-push raw (depth_behind depth first) (drop (part_len first) text) parts depth' rest part cut.1 is)

-- and its piece
pub pieces_of-push : (raw : Bool) (place depth : ℕ) (text : Text) (parts : List Part) (depth' place' : ℕ) (rest : Text) (part : Part) → Cuts raw depth text parts depth' rest → place' + length rest ≡ place + length text → pieces_of place depth (parts ++ part ∷ []) ≡ pieces_of place depth parts ++ piece_of place' depth' part
pieces_of-push raw place depth text [] depth' place' rest part cut sum =
    let same : place ≡ place' = omega (arith, ap length cut.1) in
    rw (same, cut.0) (append-nil (piece_of place' depth' part))
pieces_of-push raw place depth text (first ∷ parts) depth' place' rest part cut sum =
    let within = part_within raw depth text first cut.0 in
    let more : place' + length rest ≡ place + part_len first + length (drop (part_len first) text) = omega (arith, within.1, length-drop (part_len first) text) in
    ap (λ pieces. piece_of place depth first ++ pieces)
    (pieces_of-push raw (place + part_len first) (depth_behind depth first) (drop (part_len first) text) parts depth' place' rest part cut.1 more)
    ∙ sym (append_assoc (piece_of place depth first) (pieces_of (place + part_len first) (depth_behind depth first) parts) (piece_of place' depth' part))
