use Rattle.std.proofs.Common.{arith}
use Rattle.mro_c3.specs.Merge.{without_head}
use Rattle.mro_c3.proofs.MergeSteps.{IsCounted-at, CountsTails-set, taken_set}
use Rattle.mro_c3.proofs.merge.take_each.Goals as goal

pub take-requires : goal.take-requires
take-requires c = IsCounted-at c.loop-list.lists c.loop-list.list-index c.loop-list.in_tails c.list-item.result (omega arith) c.loop-list.invariant.counted

pub loop-list-preserved : goal.loop-list-preserved
loop-list-preserved c = record {
  taken = taken_set (without_head c.args.number) c.args.lists.now c.loop-list.list-index c.loop-list.lists c.list-item.result c.take.new.self c.loop-list-test.true c.loop-list.invariant.taken c.take.ensures.list;
  counted =
      CountsTails-set c.loop-list.lists c.loop-list.list-index c.list-item.result c.take.new.self c.loop-list.in_tails c.take.new.in_tails (omega arith)
      c.loop-list.invariant.counted c.take.ensures.counts;
}
