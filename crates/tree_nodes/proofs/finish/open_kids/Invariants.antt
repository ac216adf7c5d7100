use Rattle.std.proofs.Common.{◌≡◌, ◌≤◌, ◌++◌, length, reverse, drop}
use Rattle.tree_nodes.specs.Finishing.{opened}
use Rattle.tree_nodes.proofs.finish.open_kids.Given as goal

abbrev pub invariant-loop-left : goal.invariant-loop-left
invariant-loop-left l = (l.left ≤ length l.kids) × (reverse l.stack.items ≡ opened l.above (drop l.left l.kids) ++ reverse l.initial.stack.items)

abbrev pub decreases-loop-left : goal.decreases-loop-left
decreases-loop-left l = l.left
