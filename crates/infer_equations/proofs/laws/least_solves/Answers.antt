use Rattle.infer_equations.proofs.Rounds.{least_is_solution}
use Rattle.infer_equations.proofs.laws.least_solves.Goals as goal

pub returns : goal.returns
returns g c =
    let e = c.args._eqs.now in
    least_is_solution (g.E.Equations.count_of e) (g.E.Equations.limit_of e) (g.E.Equations.right e) (g.met.E.Equations.monotone e) (g.met.E.Equations.within e)
