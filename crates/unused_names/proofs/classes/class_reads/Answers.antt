use Rattle.std.proofs.Common.{sym, subst}
use Rattle.scope_rules.specs.Nodes.{below}
use Rattle.unused_names.specs.Reads.{class_read, class_reads_among}
use Rattle.unused_names.specs.Sets.{HasNames}
use Rattle.unused_names.proofs.Lists.{flat_more}
use Rattle.unused_names.proofs.classes.class_reads.Goals as goal

pub loop-n-preserved : goal.loop-n-preserved
loop-n-preserved c = subst (HasNames _) (sym (flat_more (class_read c.args.tree.now) c.loop-n.n)) (c.in_ok-add_class_read.ensures (class_reads_among c.args.tree.now (below c.loop-n.n)) c.loop-n.invariant)
