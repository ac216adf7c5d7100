use Rattle.std.proofs.Common.{◌≡◌, ℕ, map}
use Rattle.infer_lazy.specs.Waiting.{with_places}
use Rattle.infer_lazy.proofs.pairs.Pairs.wake.Given as goal

abbrev pub invariant-loop-pair : goal.invariant-loop-pair
invariant-loop-pair l = with_places l.waiting (map (λ (p : ℕ × ℕ). p.1) l.pair-iterator) ≡ with_places l.initial.waiting (map (λ (p : ℕ × ℕ). p.1) l.initial.pair-iterator)
