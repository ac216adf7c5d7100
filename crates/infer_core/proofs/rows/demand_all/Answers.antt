use Rattle.std.proofs.Common.{rules, ◌<◌, length}
use Rattle.infer_equations.specs.Least.{least}
use Rattle.infer_core.proofs.Row.{row-refused, row-longer}
use Rattle.infer_core.proofs.rows.demand_all.Goals as goal

pub returns-in-Err-clause-row : goal.returns-in-Err-clause-row
returns-in-Err-clause-row g c =
    let lt : c.loop-var.var-index < length c.args.vars.now = search rules in
    row-refused g.E.Equations.limit_of (λ e. least (g.E.Equations.count_of e) (g.E.Equations.limit_of e) (g.E.Equations.right e)) g.E.Equations.reads c.args.solver.now.equations c.args.vars.now c.loop-var.var-index
    c.args.solver.now c.loop-var.solver c.demand_one.new.solver c.args.steps.now c.loop-var.steps c.demand_one.new.steps c.demand_one.result lt c.loop-var.invariant c.demand_one.ensures c.in-Err.memory c.in-Err.is

pub loop-var-preserved : goal.loop-var-preserved
loop-var-preserved g c =
    let lt : c.loop-var.var-index < length c.args.vars.now = search rules in
    row-longer g.E.Equations.limit_of (λ e. least (g.E.Equations.count_of e) (g.E.Equations.limit_of e) (g.E.Equations.right e)) g.E.Equations.reads c.args.solver.now.equations c.args.vars.now c.loop-var.var-index
    c.args.solver.now c.loop-var.solver c.demand_one.new.solver c.args.steps.now c.loop-var.steps c.demand_one.new.steps c.demand_one.result lt c.loop-var.invariant c.demand_one.ensures tt c.in-Ok.is
