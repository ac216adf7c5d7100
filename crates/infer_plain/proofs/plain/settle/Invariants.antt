use Rattle.std.proofs.Common.{◌-◌, ◌*◌, ◌+◌}
use Rattle.infer_equations.specs.Seen.{Keeps}
use Rattle.infer_reached.specs.Tables.{tables}
use Rattle.infer_reached.specs.InProgress.{InProgress, HasSet, weight}
use Rattle.infer_plain.proofs.plain.settle.Given as goal

abbrev pub invariant-loop : goal.invariant-loop
invariant-loop g l = record {
  keeps : Keeps l.initial.view l.view;
  progress : InProgress (g.E.Equations.count_of l.fn.eqs) (g.E.Equations.limit_of l.fn.eqs) (g.E.Equations.right l.fn.eqs) (tables l.view) l.run.items;
  known : HasSet (tables l.view) l.fn.var;
}

abbrev pub decreases-loop : goal.decreases-loop
decreases-loop g l = g.E.Equations.count_of l.fn.eqs * (g.E.Equations.limit_of l.fn.eqs + 2) - weight (g.E.Equations.count_of l.fn.eqs) (g.E.Equations.limit_of l.fn.eqs) (tables l.view)
