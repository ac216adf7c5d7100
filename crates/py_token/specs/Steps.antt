-- How far a scan has come, as the code goes from piece to piece.
use Rattle.std.specs.Prelude.{◌≡◌, ℕ, ◌+◌, ◌<◌, ◌≤◌, List, [], ◌∷◌, length, drop, encode_utf8_all}
use Rattle.lint_values.specs.declared.place.Pos.{Pos}
use Rattle.py_lexeme.specs.declared.piece.Piece.{Piece}
use Rattle.py_lexeme.specs.Pieces.{IsPieceAt}
use Rattle.py_source.specs.Places.{pos_from}

-- the pieces stand at the front of the characters, one behind the other
abbrev pub AreCut : List ℕ → List Piece → Type 0
AreCut cs [] = Unit {0}
AreCut cs (piece ∷ pieces) = IsPieceAt piece cs × AreCut (drop piece.len cs) pieces

-- the rest of the characters of a text that begins at some place begins at this byte, at this line and column
pub record StandsAt (from : Pos) (text : List ℕ) (rest : List ℕ) (start : ℕ) (at : Pos) : Type 0 where
  pub suffix : drop start text ≡ encode_utf8_all rest
  pub size : start + length (encode_utf8_all rest) ≡ length text
  pub pos : 0 < length rest → at ≡ pos_from from start text
  pub line : at.line ≤ from.line + start
  pub col : at.col ≤ from.col + start
