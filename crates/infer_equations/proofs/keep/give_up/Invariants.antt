use Rattle.std.proofs.Common.{◌≡◌, ℕ, cond, drop}
use Rattle.std.specs.Prelude.{None, nat_eq}
use Rattle.std.specs.List.{list_any}
use Rattle.std.specs.FinMap.{get}
use Rattle.infer_equations.proofs.keep.give_up.Given as goal

abbrev pub invariant-loop-var : goal.invariant-loop-var
invariant-loop-var l = (v : ℕ) → cond (list_any (nat_eq v) (drop l.var-index l.run)) None (get l.own v) ≡ cond (list_any (nat_eq v) l.run) None (get l.initial.own v)
