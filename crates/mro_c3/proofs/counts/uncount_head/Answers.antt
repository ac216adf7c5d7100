use Rattle.mro_c3.proofs.CountLaws.{Recounts-head, head_counted}
use Rattle.mro_c3.proofs.counts.uncount_head.Goals as goal

pub uncount-requires : goal.uncount-requires
uncount-requires c = head_counted c.args.list.now c.args.counts.now c.in-len1-up.len_at_least c.requires

pub returns-in-len1-up : goal.returns-in-len1-up
returns-in-len1-up c = Recounts-head c.args.list.now c.args.counts.now c.uncount.new.counts c.in-len1-up.len_at_least c.uncount.ensures
