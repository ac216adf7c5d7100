use Rattle.parse_stmt.proofs.OneAnswer.{tree-one}
use Rattle.parse_stmt.proofs.laws.one_tree.Goals as goal

pub returns : goal.returns
returns c = tree-one
