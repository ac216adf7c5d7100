use Rattle.flow_rules.proofs.NodeSteps.{made_on}
use Rattle.flow_rules.proofs.RedefinedLaws.{telling_on}
use Rattle.flow_rules.proofs.redefined.check_sort.Goals as goal

pub loop-n-preserved : goal.loop-n-preserved
loop-n-preserved c = record {
  made = made_on c.args.tree.now _ _ _ c.in-Some.ensures.cases.0 c.loop-n.invariant.made;
  telling = telling_on c.args.sort c.args.file c.args.tree.now _ _ _ _ _ _ _ _ c.in-Some.ensures.cases.0 c.in_ok-check_statement.ensures c.loop-n.invariant.telling;
}
