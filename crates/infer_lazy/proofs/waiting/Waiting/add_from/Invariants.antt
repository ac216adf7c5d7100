use Rattle.std.proofs.Common.{◌≡◌, ◌-◌}
use Rattle.infer_lazy.specs.Waiting.{with_places, places}
use Rattle.infer_lazy.proofs.waiting.Waiting.add_from.Given as goal

abbrev pub invariant-loop-place : goal.invariant-loop-place
invariant-loop-place l = with_places l.self (places l.place (l.end - l.place)) ≡ with_places l.fn.self (places l.fn.first (l.fn.end - l.fn.first))
