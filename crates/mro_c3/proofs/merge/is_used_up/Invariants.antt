use Rattle.std.proofs.Common.{◌≡◌, drop}
use Rattle.mro_c3.specs.Merge.{heads}
use Rattle.mro_c3.proofs.merge.is_used_up.Given as goal

abbrev pub invariant-loop-list : goal.invariant-loop-list
invariant-loop-list l = heads l.lists ≡ heads (drop l.list-index l.lists)
