use Rattle.std.proofs.Common.{◌≡◌, ◌++◌, take, drop, map}
use Rattle.mro_c3.specs.Merge.{without_head}
use Rattle.mro_c3.specs.Table.{CountsTails}
use Rattle.mro_c3.proofs.merge.take_each.Given as goal

abbrev pub invariant-loop-list : goal.invariant-loop-list
invariant-loop-list l = record {
  taken : l.lists ≡ map (without_head l.number) (take l.list-index l.initial.lists) ++ drop l.list-index l.initial.lists;
  counted : CountsTails l.lists l.in_tails;
}
