use Rattle.std.proofs.Common.{subst, IfOk}
use Rattle.std.proofs.lemmas.Result.{IfOk-weaker}
use Rattle.infer_sets.specs.Sets.{joined}
use Rattle.infer_sets.specs.Numbers.{IsNumber, set_at}
use Rattle.infer_equations.specs.Seen.{Seen}
use Rattle.infer_equations.proofs.Shown.{stays-grown, gives-number}
use Rattle.infer_equations.proofs.view.View.join.Goals as goal

pub returns-clause-stays : goal.returns-clause-stays
returns-clause-stays c = stays-grown _ _ _ _ _ _ _ c.self.view_is c.join.ensures.grew c.self.invariant _

pub returns-clause-gives : goal.returns-clause-gives
returns-clause-gives c =
    gives-number _ _ _ _ _ _ _ c.self.view_is c.join.ensures.grew c.self.invariant _ c.join.result
    (subst (λ (u : Seen). IfOk c.join.result (λ id. IsNumber c.join.new.self.sets id (joined c.args.limit (set_at u.numbers c.args.a) (set_at u.numbers c.args.b)))) c.self.view_is
    (IfOk-weaker c.join.result _ _ (λ id h. h.1) c.join.ensures.ok))
