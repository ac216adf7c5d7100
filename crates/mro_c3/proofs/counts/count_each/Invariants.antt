use Rattle.std.proofs.Common.{take}
use Rattle.mro_c3.specs.Table.{CountsMore}
use Rattle.mro_c3.proofs.counts.count_each.Given as goal

abbrev pub invariant-loop-number : goal.invariant-loop-number
invariant-loop-number l = CountsMore (take l.number-index l.numbers) l.initial.counts l.counts
