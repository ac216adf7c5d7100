use Rattle.call_binding.proofs.TakenLaws.{plain_taken}
use Rattle.call_binding.proofs.laws.plain_arguments_are_taken_once_or_surplus.Goals as goal

pub returns : goal.returns
returns c = plain_taken
