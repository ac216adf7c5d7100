use Rattle.py_blocks.proofs.ParseLaws.{one-tree}
use Rattle.py_blocks.proofs.laws.one_tree.Goals as goal

pub returns : goal.returns
returns c = one-tree
