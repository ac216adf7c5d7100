use Rattle.std.proofs.Common.{◌≡◌, drop}
use Rattle.infer_lazy.specs.Worklist.{paired}
use Rattle.infer_lazy.proofs.worklist.pair_all.Given as goal

abbrev pub invariant-loop-var : goal.invariant-loop-var
invariant-loop-var l = paired l.view.work l.reader (drop l.var-index l.noted) l.pairs ≡ paired l.view.work l.reader l.noted l.initial.pairs
