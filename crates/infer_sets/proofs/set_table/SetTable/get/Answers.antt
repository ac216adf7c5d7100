use Rattle.infer_sets.specs.Numbers.{set_at}
use Rattle.infer_sets.proofs.Growth.{get_or_any}
use Rattle.infer_sets.proofs.set_table.SetTable.get.Goals as goal

pub returns : goal.returns
unfolding set_at
returns c = get_or_any _ _ c.args.id _ c.self.view_is c.requires c.index.ensures
