use Rattle.std.proofs.Common.{◌≡◌, ◌++◌, None}
use Rattle.pragma_scope.specs.Timelines.{merged, merged_pair, steps_left}
use Rattle.pragma_scope.proofs.step.merged.Given as goal

abbrev pub invariant-loop-next : goal.invariant-loop-next
invariant-loop-next l = l.steps.items ++ merged_pair l.left ≡ merged None l.earlier None l.later

abbrev pub decreases-loop-next : goal.decreases-loop-next
decreases-loop-next l = steps_left l.left
