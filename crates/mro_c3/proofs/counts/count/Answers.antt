use Rattle.mro_c3.proofs.CountLaws.{CountsMore-set}
use Rattle.mro_c3.proofs.counts.count.Goals as goal

pub returns-in-Some : goal.returns-in-Some
returns-in-Some c = CountsMore-set c.args.counts.now c.args.number c.in-Some.more c.requires c.in-Some.ensures.1
