use Rattle.std.proofs.Common.{sym, subst}
use Rattle.scope_rules.specs.Nodes.{below}
use Rattle.unused_names.specs.Variables.{locals_of, locals_among}
use Rattle.unused_names.specs.Sets.{HasNumbers}
use Rattle.unused_names.proofs.Lists.{flat_more}
use Rattle.unused_names.proofs.Sets.{no_numbers_yet}
use Rattle.unused_names.proofs.locals.locals_scopes.Goals as goal

pub loop-n-preserved : goal.loop-n-preserved
loop-n-preserved c = subst (HasNumbers _) (sym (flat_more (locals_of c.args.tree.now) c.loop-n.n)) (c.in_ok-add_locals.ensures (locals_among c.args.tree.now (below c.loop-n.n)) c.loop-n.invariant)

pub loop-n-init : goal.loop-n-init
loop-n-init c = no_numbers_yet c.new-numbers.result c.new-numbers.ensures.empty
