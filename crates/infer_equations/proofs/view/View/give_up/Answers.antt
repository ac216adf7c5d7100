use Rattle.infer_equations.proofs.Valued.{given-empty, valued-empty}
use Rattle.infer_equations.proofs.view.View.give_up.Goals as goal

pub invariant_of-self : goal.invariant_of-self
invariant_of-self c = (c.self.invariant.0, c.self.invariant.1, given-empty _ _ c.new.ensures)

pub returns-clause-none : goal.returns-clause-none
returns-clause-none c = valued-empty _ _ c.new.ensures
