use Rattle.std.proofs.Common.{◌≡◌, take}
use Rattle.std.specs.Prelude.{Ok, ⊤}
use Rattle.infer_equations.specs.Least.{least}
use Rattle.infer_core.specs.Row.{AreDemanded, AreSolved}
use Rattle.infer_core.proofs.rows.demand_all.Given as goal

abbrev pub invariant-loop-var : goal.invariant-loop-var
invariant-loop-var g l =
    let e = l.fn.solver.equations in
    (l.solver.equations ≡ e)
    × AreDemanded {T = ⊤} {F = ⊤} (g.E.Equations.limit_of e) (least (g.E.Equations.count_of e) (g.E.Equations.limit_of e) (g.E.Equations.right e)) (g.E.Equations.reads e) l.fn.vars l.fn.solver l.solver l.fn.steps l.steps (Ok tt)
    × AreSolved (take l.var-index l.fn.vars) l.solver
