use Rattle.std.proofs.Common.{◌≡◌, drop}
use Rattle.mro_c3.specs.Merge.{next_of}
use Rattle.mro_c3.specs.Table.{next_among}
use Rattle.mro_c3.proofs.merge.next.Given as goal

abbrev pub invariant-loop-list : goal.invariant-loop-list
invariant-loop-list l = next_of l.lists ≡ next_among l.lists (drop l.list-index l.lists)
