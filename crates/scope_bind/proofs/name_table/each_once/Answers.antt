use Rattle.scope_bind.proofs.NameLaws.{each_once}
use Rattle.scope_bind.proofs.name_table.each_once.Goals as goal

pub returns : goal.returns
returns c = each_once c.args.rows.items c.sort.new.self.items c.dedup.new.self.items c.sort.ensures.permutation c.in_ok-sort.ensures.sorted c.dedup.ensures.filtered
