use Rattle.std.proofs.Common.{sym, subst}
use Rattle.scope_rules.specs.Nodes.{below}
use Rattle.unused_names.specs.AnnotationWords.{quoted_by, quoted_among}
use Rattle.unused_names.specs.Sets.{HasNames}
use Rattle.unused_names.proofs.Lists.{flat_more}
use Rattle.unused_names.proofs.quoted.quoted_under.Goals as goal

pub loop-n-preserved : goal.loop-n-preserved
loop-n-preserved c = subst (HasNames _) (sym (flat_more (quoted_by c.args.tree.now) c.loop-n.n)) (c.in_ok-add_quoted.ensures (quoted_among c.args.tree.now (below c.loop-n.n)) c.loop-n.invariant)
