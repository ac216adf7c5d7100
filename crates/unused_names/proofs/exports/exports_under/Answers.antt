use Rattle.std.proofs.Common.{sym, subst}
use Rattle.scope_rules.specs.Nodes.{below}
use Rattle.unused_names.specs.Exports.{exported_by, exported_among}
use Rattle.unused_names.specs.Sets.{HasNames}
use Rattle.unused_names.proofs.Lists.{flat_more}
use Rattle.unused_names.proofs.exports.exports_under.Goals as goal

pub loop-n-preserved : goal.loop-n-preserved
loop-n-preserved c = subst (HasNames _) (sym (flat_more (exported_by c.args.tree.now) c.loop-n.n)) (c.in_ok-add_export.ensures (exported_among c.args.tree.now (below c.loop-n.n)) c.loop-n.invariant)
