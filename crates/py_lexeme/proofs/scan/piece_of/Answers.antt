use Rattle.std.proofs.Common.{subst, sym, MatchResult}
use Rattle.py_lexeme.specs.Pieces.{IsPieceAt}
use Rattle.py_lexeme.specs.Faults.{IsFaulty}
use Rattle.py_lexeme.proofs.Matches.{scan_holds}
use Rattle.py_lexeme.proofs.scan.piece_of.Goals as goal

pub returns : goal.returns
returns c = subst (λ o. MatchResult o (λ p. IsPieceAt p c.args.cs.now) (λ stop. IsFaulty stop c.args.cs.now)) (sym c.scan.ensures) (scan_holds c.args.cs.now c.requires.some)
