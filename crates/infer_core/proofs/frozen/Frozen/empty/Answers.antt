use Rattle.infer_core.proofs.RightTables.{right-empty}
use Rattle.infer_core.proofs.frozen.Frozen.empty.Goals as goal

pub returns-clause-right : goal.returns-clause-right
returns-clause-right c = λ count limit right. right-empty count limit right _ c.new.ensures
