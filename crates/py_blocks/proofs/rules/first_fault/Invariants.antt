use Rattle.std.proofs.Common.{reverse, length}
use Rattle.py_blocks.specs.Looking.{IsLooking}
use Rattle.py_blocks.proofs.rules.first_fault.Given as goal

abbrev pub invariant-loop-rest : goal.invariant-loop-rest
invariant-loop-rest l = IsLooking l.is_whole l.lines l.place l.previous (reverse l.standing.items) l.rest

abbrev pub decreases-loop-rest : goal.decreases-loop-rest
decreases-loop-rest l = length l.rest
