use Rattle.infer_equations.proofs.Keeping.{Moved}
use Rattle.infer_equations.proofs.keep.keep_all.Given as goal

abbrev pub invariant-loop-var : goal.invariant-loop-var
invariant-loop-var l = Moved l.initial.work l.initial.own l.run l.var-index l.work l.own
