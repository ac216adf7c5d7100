use Rattle.py_blocks.proofs.ParseLaws.{some-tree}
use Rattle.py_blocks.proofs.laws.some_tree.Goals as goal

pub returns : goal.returns
returns c = some-tree
