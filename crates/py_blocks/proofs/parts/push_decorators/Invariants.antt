use Rattle.std.proofs.Common.{◌≡◌, ◌++◌, drop}
use Rattle.py_blocks.proofs.GatheredLaws.{nodes_of}
use Rattle.py_blocks.proofs.parts.push_decorators.Given as goal

abbrev pub invariant-loop-row : goal.invariant-loop-row
invariant-loop-row l = l.kids.items ++ nodes_of (drop l.row-index l.decorators) ≡ l.initial.kids.items ++ nodes_of l.decorators
