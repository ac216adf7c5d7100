use Rattle.std.proofs.Common.{◌-◌, ◌+◌, ◌≤◌, ◌∷◌, [], length}
use Rattle.infer_equations.specs.Seen.{Keeps, solved}
use Rattle.infer_reached.specs.InProgress.{HasSet}
use Rattle.infer_lazy.specs.Worklist.{Lazy, credit}
use Rattle.infer_lazy.proofs.Steps.{most_steps}
use Rattle.infer_lazy.proofs.worklist.work_through.Given as goal

abbrev pub invariant-loop-place : goal.invariant-loop-place
invariant-loop-place g l = record {
  kept : Keeps l.fn.view l.view;
  lazy : Lazy (g.E.Equations.count_of l.fn.eqs) (g.E.Equations.limit_of l.fn.eqs) (g.E.Equations.right l.fn.eqs) (g.E.Equations.reads l.fn.eqs) (solved l.fn.view) l.view.work (l.fn.start ∷ []) l.run.items l.waiting l.pairs;
  has : HasSet (solved l.fn.view, l.view.work) l.fn.start;
  cost : l.steps + length l.waiting ≤ l.fn.steps + credit (g.E.Equations.limit_of l.fn.eqs) (solved l.fn.view, l.view.work) l.run.items l.pairs;
}

abbrev pub decreases-loop-place : goal.decreases-loop-place
decreases-loop-place g l = (l.fn.steps + most_steps (g.E.Equations.count_of l.fn.eqs) (g.E.Equations.limit_of l.fn.eqs)) - l.steps
