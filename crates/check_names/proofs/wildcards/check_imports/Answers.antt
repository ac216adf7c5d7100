use Rattle.check_names.specs.Wildcards.{wildcard_import}
use Rattle.rule_nodes.proofs.Below.{nodes_on}
use Rattle.check_names.proofs.wildcards.check_imports.Goals as goal

pub loop-n-preserved : goal.loop-n-preserved
loop-n-preserved c = nodes_on (wildcard_import c.args.file c.args.tree.now) _ _ _ _ c.loop-n.invariant c.in_ok-check_import.ensures
