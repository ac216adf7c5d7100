use Rattle.std.proofs.Common.{length}
use Rattle.pragma_scope.specs.Nestings.{IsSkip}
use Rattle.pragma_scope.proofs.nesting.next_skip.Given as goal

abbrev pub invariant-loop-left : goal.invariant-loop-left
invariant-loop-left l = IsSkip l.blocks (length l.skips) l.left

abbrev pub decreases-loop-left : goal.decreases-loop-left
decreases-loop-left l = l.left
