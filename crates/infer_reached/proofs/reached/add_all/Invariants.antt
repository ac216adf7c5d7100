use Rattle.infer_reached.proofs.Extension.{Adding}
use Rattle.infer_reached.proofs.reached.add_all.Given as goal

abbrev pub invariant-loop-var : goal.invariant-loop-var
invariant-loop-var l = Adding l.initial.view l.view l.initial.run.items l.run.items l.noted l.var-index
