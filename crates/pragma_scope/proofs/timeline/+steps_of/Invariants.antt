use Rattle.std.proofs.Common.{length}
use Rattle.pragma_scope.proofs.timeline.+steps_of.Given as goal

abbrev pub decreases-steps_of : goal.decreases-steps_of
decreases-steps_of l = length l.rows.now
