use Rattle.std.proofs.Common.{take}
use Rattle.mro_c3.specs.Table.{CountsTails}
use Rattle.mro_c3.proofs.merge.count_tails.Given as goal

abbrev pub invariant-loop-list : goal.invariant-loop-list
invariant-loop-list l = CountsTails (take l.list-index l.lists) l.in_tails
