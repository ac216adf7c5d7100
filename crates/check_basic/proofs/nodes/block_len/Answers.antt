use Rattle.std.proofs.Common.{length, ap, arith}
use Rattle.check_basic.proofs.NodeSteps.{block_on, made_on}
use Rattle.check_basic.proofs.nodes.block_len.Goals as goal

pub loop-kid-preserved : goal.loop-kid-preserved
loop-kid-preserved c = record {
  made = made_on c.args.tree.now _ _ _ c.in-Some.ensures.cases.0 c.loop-kid.invariant.made;
  within = omega (arith, c.loop-kid.invariant.within, c.block_part-len.ensures.few, ap length c.in-Some.ensures.cases.0);
  same = block_on c.args.tree.now _ _ _ _ _ _ c.in-Some.ensures.cases.0 c.block_part-len.ensures.part c.loop-kid.invariant.same;
}
