use Rattle.infer_equations.specs.Seen.{Keeps, solved}
use Rattle.infer_plain.specs.Sweep.{Swept}
use Rattle.infer_plain.proofs.plain.sweep.Given as goal

abbrev pub invariant-loop-i : goal.invariant-loop-i
invariant-loop-i g l = record {
  keeps : Keeps l.initial.view l.view;
  swept : Swept (g.E.Equations.count_of l.fn.eqs) (g.E.Equations.limit_of l.fn.eqs) (g.E.Equations.right l.fn.eqs) (solved l.initial.view) (l.initial.view.work, l.initial.run.items) l.i (l.view.work, l.run.items) l.changed;
}
