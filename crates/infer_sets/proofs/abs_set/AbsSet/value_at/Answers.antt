use Rattle.std.proofs.Common.{rules}
use Rattle.infer_sets.proofs.Listed.{value-listed}
use Rattle.infer_sets.proofs.abs_set.AbsSet.value_at.Goals as goal

pub returns-in-Some : goal.returns-in-Some
returns-in-Some c = value-listed c.args.self.now c.deref.result.now c.args.place c.at_place.result (search rules) (search rules) c.at_place.ensures
