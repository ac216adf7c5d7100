use Rattle.check_basic.proofs.NodeSteps.{cut_on}
use Rattle.check_basic.proofs.logical.check_multiple_statements.Goals as goal

pub loop-line-preserved : goal.loop-line-preserved
loop-line-preserved c = record {
  made = c.split_before.ensures.behind_made;
  told = cut_on c.args.file c.args.tree.now c.args.tokens.now _ _ _ _ _ _ _ _ _ _ c.in-Some.ensures.cases.0 c.start_of-start.ensures c.split_before.ensures.front c.split_before.ensures.behind c.in_ok-check_second.ensures c.loop-line.invariant.told;
}
