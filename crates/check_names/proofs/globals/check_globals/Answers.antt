use Rattle.check_names.specs.Globals.{global_statement}
use Rattle.rule_nodes.proofs.Below.{nodes_on}
use Rattle.check_names.proofs.globals.check_globals.Goals as goal

pub loop-n-preserved : goal.loop-n-preserved
loop-n-preserved c = nodes_on (global_statement c.args.file c.args.tree.now) _ _ _ _ c.loop-n.invariant c.in_ok-check_global.ensures
