use Rattle.scope_rules.proofs.Answering.{one_answer}
use Rattle.scope_rules.proofs.laws.reads_have_one_answer.Goals as goal

pub returns : goal.returns
returns c = one_answer
