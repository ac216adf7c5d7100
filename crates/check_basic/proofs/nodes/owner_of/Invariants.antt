use Rattle.std.proofs.Common.{◌≡◌, ◌<◌}
use Rattle.tree_nodes.specs.Trees.{count_of}
use Rattle.rule_nodes.specs.Outwards.{owner_of}
use Rattle.check_basic.proofs.nodes.owner_of.Given as goal

abbrev pub invariant-loop-parent : goal.invariant-loop-parent
invariant-loop-parent l = (l.node.0 < count_of l.tree) × (owner_of l.tree l.node.0 ≡ owner_of l.tree l.fn.n.0)

abbrev pub decreases-loop-parent : goal.decreases-loop-parent
decreases-loop-parent l = l.node.0
