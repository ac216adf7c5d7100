use Rattle.std.proofs.Common.{◌≡◌, ℕ, ◌<◌, false, Some}
use Rattle.std.specs.List.{slice_get}
use Rattle.call_binding.specs.declared.fate.ParamFate.{ParamFate}
use Rattle.call_binding.specs.Rule.{is_missing}
use Rattle.call_binding.proofs.binding.Binding.misses.Given as goal

abbrev pub invariant-loop-i : goal.invariant-loop-i
invariant-loop-i l = (k : ℕ) (u : ParamFate) → k < l.i → slice_get l.self.params k ≡ Some u → is_missing u ≡ false
