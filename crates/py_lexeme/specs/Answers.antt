-- What a call that cuts answers.
use Rattle.std.specs.Prelude.{◌≡◌, List, Option}
use Rattle.py_lexeme.specs.declared.piece.Piece.{Piece}
use Rattle.py_lexeme.specs.declared.piece.Stop.{Stop}
use Rattle.py_lexeme.specs.declared.piece.Cut.{Cut}

-- the answer holds these pieces and this stop
pub record Holds (cut : Cut) (pieces : List Piece) (stop : Option Stop) : Type 0 where
  pub same_pieces : cut.pieces.items ≡ pieces
  pub same_stop : cut.stop ≡ stop
