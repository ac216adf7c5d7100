use Rattle.check_names.specs.Undefined.{undefined_variable}
use Rattle.rule_nodes.proofs.Below.{nodes_on}
use Rattle.check_names.proofs.undefined.check_reads.Goals as goal

pub loop-n-preserved : goal.loop-n-preserved
loop-n-preserved c = nodes_on (undefined_variable c.args.file c.args.additional.now c.args.tree.now) _ _ _ _ c.loop-n.invariant c.in_ok-check_read.ensures
