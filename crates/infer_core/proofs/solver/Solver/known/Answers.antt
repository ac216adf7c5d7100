use Rattle.std.proofs.Common.{◌≡◌, ◌∙◌, ap, subst}
use Rattle.std.specs.Prelude.{IfSome}
use Rattle.infer_equations.specs.Least.{least}
use Rattle.infer_core.specs.Solving.{Solving}
use Rattle.infer_core.proofs.Demands.{known_if}
use Rattle.infer_core.proofs.solver.Solver.known.Goals as goal

pub returns-clause-least : goal.returns-clause-least
returns-clause-least g c =
    let s = c.self.inside in
    subst (λ (q : Solving _). IfSome c.solved.result (λ s. s.now ≡ least (g.E.Equations.count_of q.equations) (g.E.Equations.limit_of q.equations) (g.E.Equations.right q.equations) c.args.var)) c.self.view_is
    (known_if (g.E.Equations.count_of s.eqs.now) (g.E.Equations.limit_of s.eqs.now) (g.E.Equations.right s.eqs.now) s.view.base s.view.own c.args.var c.solved.result c.self.invariant.base_right c.self.invariant.solved_right c.solved.ensures)
