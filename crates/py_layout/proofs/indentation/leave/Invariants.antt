use Rattle.std.proofs.Common.{◌≡◌, ◌≤◌, length, take, reverse}
use Rattle.py_layout.specs.Indentation.{leave}
use Rattle.py_layout.proofs.indentation.leave.Given as goal

abbrev pub invariant-loop-rest : goal.invariant-loop-rest
invariant-loop-rest l = (leave (reverse l.rest) l.line ≡ leave (reverse l.stack) l.line) × (l.rest ≡ take (length l.rest) l.stack) × (length l.rest ≤ length l.stack)

abbrev pub decreases-loop-rest : goal.decreases-loop-rest
decreases-loop-rest l = length l.rest
