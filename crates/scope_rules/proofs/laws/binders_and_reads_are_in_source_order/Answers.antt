use Rattle.scope_rules.proofs.Answering.{in_source_order}
use Rattle.scope_rules.proofs.laws.binders_and_reads_are_in_source_order.Goals as goal

pub returns : goal.returns
returns c = in_source_order
