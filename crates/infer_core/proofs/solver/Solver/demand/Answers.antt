use Rattle.std.proofs.Common.{◌≡◌, refl, subst}
use Rattle.infer_equations.specs.Least.{least}
use Rattle.infer_core.proofs.Demands.{demanded_ok}
use Rattle.infer_core.proofs.solver.Solver.demand.Goals as goal

pub returns-in-Some : goal.returns-in-Some
returns-in-Some g c = (
  (refl, λ _. tt, demanded_ok _ _ _ _ _ _ _ _ _ _ c.in-Ok.ensures),
  record {
    value = subst (λ q. c.in-Some.set.now ≡ least (g.E.Equations.count_of q) (g.E.Equations.limit_of q) (g.E.Equations.right q) c.args.var) c.in-Ok.ensures.equations c.in-Some.ensures.least;
    after = tt;
  },
)
