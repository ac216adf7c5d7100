use Rattle.std.specs.Prelude.{All}
use Rattle.pragma_scope.specs.Timelines.{IsTimeline}
use Rattle.pragma_scope.proofs.timeline.timelines_of.Given as goal

abbrev pub invariant-loop-code : goal.invariant-loop-code
invariant-loop-code l = All (λ t. IsTimeline l.rows t.code t.steps.items) l.all.items
