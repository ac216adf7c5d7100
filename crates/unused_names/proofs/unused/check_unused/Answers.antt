use Rattle.std.proofs.Common.{[]}
use Rattle.unused_names.specs.UnusedRules.{node_messages}
use Rattle.unused_names.proofs.Lists.{found_more}
use Rattle.unused_names.proofs.unused.check_unused.Goals as goal

pub loop-n-preserved : goal.loop-n-preserved
loop-n-preserved c = found_more (node_messages c.args.file c.args.is_package c.args.tree.now) c.loop-n.n [] _ _ c.loop-n.invariant c.in_ok-check_node.ensures
