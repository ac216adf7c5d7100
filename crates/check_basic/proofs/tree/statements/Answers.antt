use Rattle.std.proofs.Common.{arith}
use Rattle.check_basic.proofs.NodeSteps.{counted_on}
use Rattle.check_basic.proofs.tree.statements.Goals as goal

pub loop-n-preserved : goal.loop-n-preserved
loop-n-preserved c = (omega (arith, c.counted-count.ensures.few), counted_on c.args.tree.now _ _ _ c.loop-n.invariant.1 c.counted-count.ensures.part)
