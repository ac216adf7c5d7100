use Rattle.std.proofs.Common.{◌≡◌, sym, ◌∙◌, ap, subst}
use Rattle.infer_equations.specs.Assignment.{Map}
use Rattle.infer_core.specs.Right.{IsRight}
use Rattle.infer_core.proofs.RightTables.{solving-none}
use Rattle.infer_core.proofs.solver.Solver.new.Goals as goal

pub invariant_of-result : goal.invariant_of-result
invariant_of-result g c =
    let e = c.args.eqs.now in
    solving-none _ _ _ _ _ (subst (λ (m : Map). IsRight (g.E.Equations.count_of e) (g.E.Equations.limit_of e) (g.E.Equations.right e) m) (sym (c.over.ensures.base ∙ c.table.ensures)) c.requires) c.over.ensures.own
