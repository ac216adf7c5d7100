use Rattle.parse_stmt.proofs.OneAnswer.{tree-or-fault}
use Rattle.parse_stmt.proofs.laws.tree_or_fault.Goals as goal

pub returns : goal.returns
returns c = tree-or-fault
