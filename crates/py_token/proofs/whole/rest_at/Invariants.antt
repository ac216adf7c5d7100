use Rattle.std.proofs.Common.{◌≡◌, drop}
use Rattle.py_token.specs.FirstFault.{rest_at}
use Rattle.py_token.specs.Steps.{AreCut}
use Rattle.py_token.proofs.whole.rest_at.Given as goal

abbrev pub invariant-loop-piece : goal.invariant-loop-piece
invariant-loop-piece l = record {
  same : rest_at l.rest (drop l.piece-index l.pieces) l.left ≡ rest_at l.characters l.pieces l.n;
  cut : AreCut l.rest (drop l.piece-index l.pieces);
}
