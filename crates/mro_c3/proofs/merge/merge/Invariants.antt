use Rattle.std.proofs.Common.{length}
use Rattle.std.specs.List.{sum_by}
use Rattle.mro_c3.specs.Table.{AllNumbersBelow, CountsTails, IsMergedSoFar}
use Rattle.mro_c3.proofs.merge.merge.Given as goal

abbrev pub invariant-loop-number : goal.invariant-loop-number
invariant-loop-number l = record {
  counted : CountsTails l.lists l.in_tails;
  below : AllNumbersBelow (length l.in_tails) l.lists;
  so_far : IsMergedSoFar l.initial.lists l.initial.numbers.items l.lists l.numbers.items;
}

abbrev pub decreases-loop-number : goal.decreases-loop-number
decreases-loop-number l = sum_by length l.lists
