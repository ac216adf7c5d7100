use Rattle.infer_core.proofs.Costs.{costs-add-up}
use Rattle.infer_core.proofs.laws.costs_add_up.Goals as goal

pub returns : goal.returns
returns c = costs-add-up
