use Rattle.call_binding.proofs.TakenLaws.{given_by}
use Rattle.call_binding.proofs.laws.bound_arguments_are_given.Goals as goal

pub returns : goal.returns
returns c = given_by
