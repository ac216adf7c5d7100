use Rattle.mro_c3.proofs.MergeSteps.{CountsTails-more}
use Rattle.mro_c3.proofs.merge.count_tails.Goals as goal

pub loop-list-preserved : goal.loop-list-preserved
loop-list-preserved c = CountsTails-more c.args.lists.now c.loop-list.list-index c.list-item.result c.loop-list.in_tails c.count_tail.new.in_tails c.loop-list-test.true c.list-item.is c.loop-list.invariant c.in_ok-count_tail.ensures
