use Rattle.infer_core.proofs.Again.{few-again}
use Rattle.infer_core.proofs.laws.merges_count_few.Goals as goal

pub returns : goal.returns
returns c = few-again
