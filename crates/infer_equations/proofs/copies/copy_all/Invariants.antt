use Rattle.infer_equations.proofs.Copied.{Copies}
use Rattle.infer_equations.proofs.copies.copy_all.Given as goal

abbrev pub invariant-loop-var : goal.invariant-loop-var
invariant-loop-var l = Copies l.from.sets l.old l.run l.var-index l.copied l.initial.to l.to l.initial.ids l.ids
