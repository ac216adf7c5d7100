use Rattle.std.proofs.Common.{◌≡◌, ℕ, ◌<◌, false, Some}
use Rattle.std.specs.List.{slice_get}
use Rattle.call_binding.specs.declared.fate.KeyFate.{KeyFate}
use Rattle.call_binding.specs.Rule.{is_refused}
use Rattle.call_binding.proofs.binding.Binding.refuses.Given as goal

abbrev pub invariant-loop-j : goal.invariant-loop-j
invariant-loop-j l = (k : ℕ) (u : KeyFate) → k < l.j → slice_get l.self.keywords k ≡ Some u → is_refused u ≡ false
