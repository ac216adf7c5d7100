use Rattle.std.proofs.Common.{arith, get_or, ◌-◌}
use Rattle.mro_c3.proofs.CountLaws.{CountsMore-set_less, counted_below}
use Rattle.mro_c3.proofs.counts.uncount.Goals as goal

pub returns : goal.returns
returns c =
    CountsMore-set_less c.args.counts.now c.args.number (get_or c.args.counts.now c.args.number 0 - 1)
    (counted_below c.args.counts.now c.args.number c.requires)
    (omega (arith, c.requires))
