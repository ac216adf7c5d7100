use Rattle.infer_sets.proofs.Growth.{are-kept}
use Rattle.infer_sets.proofs.laws.numbers_are_kept.Goals as goal

pub returns : goal.returns
returns c = are-kept
