use Rattle.flow_rules.proofs.NodeSteps.{statements_on, made_on}
use Rattle.flow_rules.proofs.nodes.statements_in.Goals as goal

pub loop-kid-preserved : goal.loop-kid-preserved
loop-kid-preserved c = record {
  made = made_on c.args.tree.now _ _ _ c.in-Some.ensures.cases.0 c.loop-kid.invariant.made;
  kept = c.in_ok-add_statement.ensures.made;
  told = statements_on c.args.tree.now _ _ _ _ _ _ c.in-Some.ensures.cases.0 c.in_ok-add_statement.ensures.numbers c.loop-kid.invariant.told;
}
