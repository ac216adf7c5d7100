use Rattle.std.proofs.Common.{refl}
use Rattle.flow_rules.specs.FlowRules.{said_by, said_by_all}
use Rattle.flow_rules.proofs.NodeSteps.{rest_on}
use Rattle.flow_rules.proofs.check.check_rules.Goals as goal

pub loop-rule-preserved : goal.loop-rule-preserved
loop-rule-preserved c =
    rest_on (said_by_all c.args.options.now c.args.file c.args.tree.now) (said_by c.args.options.now c.args.file c.args.tree.now c.in-Some.rule.now) _ _ _ _ _ _ c.in-Some.ensures.cases.0 refl c.in_ok-check_rule.ensures c.loop-rule.invariant
