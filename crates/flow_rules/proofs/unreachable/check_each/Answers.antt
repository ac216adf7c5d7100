use Rattle.flow_rules.proofs.NodeSteps.{behind_on, made_on, made_first}
use Rattle.flow_rules.proofs.unreachable.check_each.Goals as goal

pub loop-n-preserved : goal.loop-n-preserved
loop-n-preserved c = record {
  made = made_on c.args.tree.now _ _ _ c.in-Some.ensures.cases.0 c.loop-n.invariant.made;
  last = made_first c.args.tree.now _ _ _ c.in-Some.ensures.cases.0 c.loop-n.invariant.made;
  told = behind_on c.args.file c.args.tree.now _ _ _ _ _ _ _ c.in-Some.ensures.cases.0 c.in_ok-check_behind.ensures c.loop-n.invariant.told;
}
