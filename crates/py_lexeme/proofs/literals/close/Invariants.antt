use Rattle.std.proofs.Common.{◌≡◌, ◌+◌, length, false}
use Rattle.py_lexeme.specs.Scan.{close, further}
use Rattle.py_lexeme.proofs.literals.close.Given as goal

abbrev pub invariant-loop-rest : goal.invariant-loop-rest
invariant-loop-rest l = (further l.len (close l.quote l.kept l.rest) ≡ close l.quote false l.cs) × (l.len + length l.rest ≡ length l.cs)

abbrev pub decreases-loop-rest : goal.decreases-loop-rest
decreases-loop-rest l = length l.rest
