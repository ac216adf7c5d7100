use Rattle.std.proofs.lemmas.Result.{IfOk-weaker}
use Rattle.infer_equations.proofs.Shown.{stays-grown, gives-number, all-given-grew}
use Rattle.infer_equations.proofs.view.View.number.Goals as goal

pub invariant_of-self : goal.invariant_of-self
invariant_of-self c = all-given-grew _ _ _ _ _ c.number.ensures.grew c.self.invariant

pub returns-clause-stays : goal.returns-clause-stays
returns-clause-stays c = stays-grown _ _ _ _ _ _ _ c.self.view_is c.number.ensures.grew c.self.invariant _

pub returns-clause-gives : goal.returns-clause-gives
returns-clause-gives c = gives-number _ _ _ _ _ _ _ c.self.view_is c.number.ensures.grew c.self.invariant c.args.set c.number.result (IfOk-weaker c.number.result _ _ (λ id h. h.1) c.number.ensures.ok)
