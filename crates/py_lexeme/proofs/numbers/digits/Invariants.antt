use Rattle.std.proofs.Common.{◌≡◌, ◌+◌, length}
use Rattle.py_lexeme.specs.Scan.{digits, is_in}
use Rattle.py_lexeme.proofs.numbers.digits.Given as goal

abbrev pub invariant-loop-rest : goal.invariant-loop-rest
invariant-loop-rest l = (l.len + digits (is_in l.class) l.rest ≡ digits (is_in l.class) l.cs) × (l.len + length l.rest ≡ length l.cs)

abbrev pub decreases-loop-rest : goal.decreases-loop-rest
decreases-loop-rest l = length l.rest
