use Rattle.std.proofs.Common.{arith, sym, ◌∙◌}
use Rattle.py_token.proofs.TextLaws.{rest_at_end}
use Rattle.py_token.proofs.whole.rest_at.Goals as goal

pub returns : goal.returns
returns c =
    sym (rest_at_end c.loop-piece.rest.now c.args.pieces.now c.loop-piece.piece-index c.loop-piece.left (omega arith)) ∙ c.loop-piece.invariant.same
