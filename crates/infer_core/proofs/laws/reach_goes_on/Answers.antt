use Rattle.infer_core.proofs.Costs.{reach-goes-on}
use Rattle.infer_core.proofs.laws.reach_goes_on.Goals as goal

pub returns : goal.returns
returns c = reach-goes-on
