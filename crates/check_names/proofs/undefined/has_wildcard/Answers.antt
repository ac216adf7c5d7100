use Rattle.std.proofs.Common.{◌∙◌, ap}
use Rattle.scope_rules.specs.Nodes.{kind_of}
use Rattle.check_names.specs.Kinds.{is_wildcard}
use Rattle.check_names.proofs.NodeSteps.{any_on}
use Rattle.check_names.proofs.undefined.has_wildcard.Goals as goal

pub loop-n-preserved : goal.loop-n-preserved
loop-n-preserved c = any_on (λ n. is_wildcard (kind_of c.args.tree.now n)) c.loop-n.n c.loop-n.found c.is_wildcard.result c.either-found.result c.loop-n.invariant (c.is_wildcard.ensures ∙ ap is_wildcard c.kind.ensures) c.either-found.ensures
