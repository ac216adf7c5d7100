use Rattle.infer_sets.proofs.Growth.{apart-take}
use Rattle.infer_sets.proofs.Slots.{reached-take}
use Rattle.infer_sets.proofs.set_table.SetTable.truncate.Goals as goal

pub invariant_of-self : goal.invariant_of-self
invariant_of-self c = rw c.truncate.ensures.items (apart-take _ _ c.self.invariant.0, reached-take _ _ _ c.self.invariant.1)
