use Rattle.rule_nodes.proofs.Below.{nodes_on}
use Rattle.check_basic.specs.TreeRules.{node_messages}
use Rattle.check_basic.proofs.tree.check_nodes.Goals as goal

pub loop-n-preserved : goal.loop-n-preserved
loop-n-preserved c = nodes_on (node_messages c.args.file c.args.tree.now) _ _ _ _ c.loop-n.invariant c.in_ok-check_node.ensures
