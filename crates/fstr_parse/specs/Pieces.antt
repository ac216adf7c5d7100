-- The pieces of an f-string, and its first fault.
use Rattle.std.specs.Prelude.{◌≡◌, ℕ, ◌+◌, ◌≤◌, ◌<◌, Bool, true, false, if◌then◌else◌, ◌⊎◌, List, [], ◌∷◌, ◌++◌, length, All, AllPairs}
use Rattle.std.specs.Str.{IsCharBoundary}
use Rattle.fstr_parse.specs.Bytes.{Text, is_conversion}
use Rattle.fstr_parse.specs.Parts.{Cuts, part_len, depth_behind, IsFaultAt}
use Rattle.fstr_parse.specs.declared.part.Part.{Part}
use Rattle.fstr_parse.specs.declared.part.Part.TheVariants.{Literal, Head, FormatEnd}
use Rattle.fstr_parse.specs.declared.piece.Piece.{Piece}
use Rattle.fstr_parse.specs.declared.fault.FieldFault.{FieldFault}

-- the piece of a part that begins at this place under so many formats: a literal part's text, a field's expression, and
-- none for the end of a format
abbrev pub piece_of : ℕ → ℕ → Part → List Piece
piece_of place depth (Literal len) =
    record { field = false; start = place; end = place + len; depth = depth; convert = 0 } ∷ []
piece_of place depth (Head field) =
    record { field = true; start = place + 1; end = place + 1 + field.expression; depth = depth; convert = field.convert } ∷ []
piece_of place depth FormatEnd = []

-- the pieces of parts, of which the first begins at this place under so many formats
abbrev pub pieces_of : ℕ → ℕ → List Part → List Piece
pieces_of place depth [] = []
pieces_of place depth (part ∷ parts) =
    piece_of place depth part ++ pieces_of (place + part_len part) (depth_behind depth part) parts

-- the whole text is parts outside formats, and these are their pieces
pub record IsCut (raw : Bool) (text : Text) (pieces : List Piece) : Type 0 where
  pub parts : List Part
  pub cut : Cuts raw 0 text parts 0 []
  pub are : pieces ≡ pieces_of 0 0 parts

-- the text is parts up to a place where none stands, and this fault stands there, at the byte of this number
pub record IsFirstFault (raw : Bool) (text : Text) (place : ℕ) (fault : FieldFault) : Type 0 where
  pub front : List Part
  pub depth : ℕ
  pub rest : Text
  pub stop : Text
  pub cut : Cuts raw 0 text front depth rest
  pub stands : IsFaultAt depth rest stop fault
  pub here : place + length stop ≡ length text

-- a piece of this text: it is not empty, can be sliced out, and is nested as deep as may be; a literal part has no conversion
pub record IsPieceOf (text : Text) (piece : Piece) : Type 0 where
  pub some : piece.start < piece.end
  pub starts : IsCharBoundary text piece.start
  pub ends : IsCharBoundary text piece.end
  pub nested : piece.depth ≤ (if piece.field then 1 else 2)
  pub converted : piece.convert ≡ 0 ⊎ (piece.field ≡ true) × (is_conversion piece.convert ≡ true)

-- the pieces stand in the text one behind the other
pub record IsInOrder (text : Text) (pieces : List Piece) : Type 0 where
  pub each : All (IsPieceOf text) pieces
  pub apart : AllPairs (λ (earlier : Piece) (later : Piece). earlier.end ≤ later.start) pieces
