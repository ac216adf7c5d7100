use Rattle.py_blocks.proofs.TreeForms.{tree-shaped}
use Rattle.py_blocks.proofs.laws.trees_are_in_shape.Goals as goal

pub returns : goal.returns
returns c = tree-shaped
