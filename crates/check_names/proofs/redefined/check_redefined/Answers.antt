use Rattle.check_names.specs.Redefined.{redefined_builtin}
use Rattle.rule_nodes.proofs.Below.{nodes_on}
use Rattle.check_names.proofs.redefined.check_redefined.Goals as goal

pub loop-n-preserved : goal.loop-n-preserved
loop-n-preserved c = nodes_on (redefined_builtin c.args.file c.args.tree.now) _ _ _ _ c.loop-n.invariant c.in_ok-check_binder.ensures
