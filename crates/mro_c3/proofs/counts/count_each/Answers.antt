use Rattle.std.proofs.Common.{take, ◌∷◌, [], get_or}
use Rattle.std.proofs.lemmas.List.{take_more}
use Rattle.mro_c3.proofs.CountLaws.{CountsMore-nil, CountsMore-then}
use Rattle.mro_c3.proofs.counts.count_each.Goals as goal

pub loop-number-init : goal.loop-number-init
loop-number-init c = CountsMore-nil c.args.counts.now

pub loop-number-preserved : goal.loop-number-preserved
loop-number-preserved c =
    rw (take_more c.args.numbers.now c.loop-number.number-index 0 c.loop-number-test.true)
    (CountsMore-then (take c.loop-number.number-index c.args.numbers.now) (get_or c.args.numbers.now c.loop-number.number-index 0 ∷ []) c.args.counts.now c.loop-number.counts c.count.new.counts c.loop-number.invariant c.in_ok-count.ensures)
