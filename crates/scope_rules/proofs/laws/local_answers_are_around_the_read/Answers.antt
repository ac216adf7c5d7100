use Rattle.scope_rules.proofs.Answering.{leads_outwards}
use Rattle.scope_rules.proofs.laws.local_answers_are_around_the_read.Goals as goal

pub returns : goal.returns
returns c = leads_outwards
