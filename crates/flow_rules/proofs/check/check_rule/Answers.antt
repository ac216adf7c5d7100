use Rattle.flow_rules.specs.FlowRules.{said_of}
use Rattle.rule_nodes.proofs.Below.{nodes_on}
use Rattle.flow_rules.proofs.check.check_rule.Goals as goal

pub loop-n-preserved : goal.loop-n-preserved
loop-n-preserved c = nodes_on (said_of c.args.options.now c.args.file c.args.tree.now c.args.rule) _ _ _ _ c.loop-n.invariant c.in_ok-check_node.ensures
