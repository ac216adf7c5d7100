use Rattle.check_names.specs.Locals.{too_many}
use Rattle.rule_nodes.proofs.Below.{nodes_on}
use Rattle.check_names.proofs.locals.check_locals.Goals as goal

pub loop-n-preserved : goal.loop-n-preserved
loop-n-preserved c = nodes_on (too_many c.args.file c.args.most c.args.tree.now) _ _ _ _ c.loop-n.invariant c.in_ok-check_def.ensures
