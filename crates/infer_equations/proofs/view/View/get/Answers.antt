use Rattle.infer_equations.proofs.Shown.{stays-grown, gives-get, all-found, all-given-grew}
use Rattle.infer_equations.proofs.view.View.get.Goals as goal

pub number_of-requires : goal.number_of-requires
number_of-requires c = all-found _ _ _ _ c.args.var _ c.self.invariant c.find_first-found.ensures

pub returns-in_err-id-clause-stays : goal.returns-in_err-id-clause-stays
returns-in_err-id-clause-stays c = stays-grown _ _ _ _ _ _ _ c.self.view_is c.number_of.ensures.grew c.self.invariant _

pub returns-in_err-push-clause-stays : goal.returns-in_err-push-clause-stays
returns-in_err-push-clause-stays c = stays-grown _ _ _ _ _ _ _ c.self.view_is c.number_of.ensures.grew c.self.invariant _

pub returns-clause-stays : goal.returns-clause-stays
returns-clause-stays c = stays-grown _ _ _ _ _ _ _ c.self.view_is c.number_of.ensures.grew c.self.invariant _

pub returns-clause-gives : goal.returns-clause-gives
returns-clause-gives c = gives-get _ _ _ _ _ _ _ c.self.view_is c.number_of.ensures.grew c.self.invariant c.args.var _ _ _ c.find_first-found.ensures c.in_ok-push.ensures.items c.in_ok-id.ensures.ok
