use Rattle.std.proofs.Common.{sym, subst}
use Rattle.infer_sets.specs.Joins.{Layer}
use Rattle.infer_equations.specs.Valued.{AreGiven}
use Rattle.infer_equations.proofs.Valued.{given-empty, valued-empty}
use Rattle.infer_equations.proofs.view.View.over.Goals as goal

pub invariant_of-result : goal.invariant_of-result
invariant_of-result c = (subst (λ (l : Layer). AreGiven l.sets c.base.inside.ids) (sym c.over.ensures) c.base.invariant, given-empty _ _ c.new.ensures, given-empty _ _ c.new-2.ensures)

pub returns-clause-own : goal.returns-clause-own
returns-clause-own c = valued-empty _ _ c.new.ensures

pub returns-clause-work : goal.returns-clause-work
returns-clause-work c = valued-empty _ _ c.new-2.ensures
