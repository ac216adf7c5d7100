-- Fields stand within their string.
use Rattle.std.proofs.Common.{◌≡◌, ℕ, ◌+◌, ◌-◌, ◌^◌, ◌<◌, ◌≤◌, List, [], length, take, drop, get_or, arith, ap, ◌∙◌, length-take, All}
use Rattle.std.proofs.lemmas.Bool.{cond_both}
use Rattle.std.proofs.lemmas.List.Elements.{All-get_or}
use Rattle.fstr_parse.specs.Pieces.{IsPieceOf}
use Rattle.fstr_parse.specs.declared.piece.Piece.{Piece}
use Rattle.py_source.specs.Spans.{IsPart, bytes_of}
use Rattle.py_terminals.specs.Fields.{Written, expression, places_of}
use Rattle.py_terminals.specs.Strings.{inside_end, inside_of, inside_start, is_closed, letters_len, quotes_len}
use Rattle.py_terminals.specs.declared.field.Places.{Places}
use Rattle.py_terminals.proofs.StringLaws.{some_quotes}
use Rattle.py_token.proofs.ScanLaws.{col_bound, line_bound}

-- a piece is a part of the text
pub is_part : (text : List ℕ) (piece : Piece) → IsPieceOf text piece → IsPart text (record { start = piece.start; end = piece.end })
is_part text piece is = record { ordered = omega (arith, is.some); from_boundary = is.starts; to_boundary = is.ends }

take_few : (n : ℕ) (xs : List ℕ) → length (take n xs) ≤ n
take_few n xs = omega (arith, length-take n xs)

-- quotes stand behind what is inside
inside_room : (text : List ℕ) (n : ℕ) → 0 < n → n ≤ length (inside_of text) → inside_start text + n < length text
inside_room text n some =
    cond_both (is_closed text) (take (inside_end text - inside_start text) (drop (inside_start text) text)) [] (λ inside. n ≤ length inside → inside_start text + n < length text)
    (λ closed within.
    let few : length (take (inside_end text - inside_start text) (drop (inside_start text) text)) ≤ inside_end text - inside_start text = take_few (inside_end text - inside_start text) (drop (inside_start text) text) in
    let quotes : 0 < quotes_len text = some_quotes (drop (letters_len text) text) in
    omega arith)
    (λ open_end within. absurd (omega arith))

-- a field has room for its expression
pub record Fits (string : Written) (piece : Piece) : Type 0 where
  pub within : inside_start string.text + piece.end < length string.text
  pub size : length (expression string piece) < length string.text
  pub lines : (places_of string piece).start.line + length (expression string piece) < 2 ^ 32
  pub columns : (places_of string piece).start.col + length (expression string piece) < 2 ^ 32

pub fits : (string : Written) (piece : Piece) → IsPieceOf (inside_of string.text) piece → string.pos.line + length string.text ≤ 2 ^ 32 → string.pos.col + length string.text ≤ 2 ^ 32 → Fits string piece
fits string piece is lines columns =
    let within : inside_start string.text + piece.end < length string.text = inside_room string.text piece.end (omega (arith, is.some)) (is.ends).0 in
    let few : length (expression string piece) ≤ piece.end - piece.start = take_few (piece.end - piece.start) (drop piece.start (inside_of string.text)) in
    record {
      within = within;
      size = omega (arith, is.some);
      lines = omega (arith, is.some, line_bound string.pos (inside_start string.text + piece.start) string.text);
      columns = omega (arith, is.some, col_bound string.pos (inside_start string.text + piece.start) string.text);
    }

-- the field at a place among the pieces, as the code has its parts
pub record IsFieldAt (string : Written) (pieces : List Piece) (i : ℕ) (d : Piece) (text : List ℕ) (places : Places) : Type 0 where
  pub is_text : text ≡ expression string (get_or pieces i d)
  pub are_places : places ≡ places_of string (get_or pieces i d)
  pub small : length text < length string.text
  pub lines : places.start.line + length text < 2 ^ 32
  pub columns : places.start.col + length text < 2 ^ 32

pub field_at : (string : Written) (pieces : List Piece) (i : ℕ) (d : Piece) (inside bytes text : List ℕ) (places : Places) → i < length pieces → All (IsPieceOf (inside_of string.text)) pieces → string.pos.line + length string.text ≤ 2 ^ 32 → string.pos.col + length string.text ≤ 2 ^ 32 → inside ≡ inside_of string.text → bytes ≡ string.text → text ≡ bytes_of inside (record { start = (get_or pieces i d).start; end = (get_or pieces i d).end }) → places ≡ places_of (record { text = bytes; pos = string.pos }) (get_or pieces i d) → IsFieldAt string pieces i d text places
field_at string pieces i d inside bytes text places within are lines columns is_inside is_bytes is_text are_places =
    let piece = get_or pieces i d in
    let is : IsPieceOf (inside_of string.text) piece = All-get_or (IsPieceOf (inside_of string.text)) pieces i d within are in
    let fit = fits string piece is lines columns in
    let same : text ≡ expression string piece = is_text ∙ ap (λ b. bytes_of b (record { start = piece.start; end = piece.end })) is_inside in
    let there : places ≡ places_of string piece = are_places ∙ ap (λ b. places_of (record { text = b; pos = string.pos }) piece) is_bytes in
    record {
      is_text = same;
      are_places = there;
      small = omega (arith, fit.size, ap length same);
      lines = omega (arith, fit.lines, ap length same, ap (λ p. p.start.line) there);
      columns = omega (arith, fit.columns, ap length same, ap (λ p. p.start.col) there);
    }
