use Rattle.parse_stmt.proofs.OneAnswer.{fault-one}
use Rattle.parse_stmt.proofs.laws.one_fault.Goals as goal

pub returns : goal.returns
returns c = fault-one
