use Rattle.std.proofs.Common.{◌∙◌}
use Rattle.check_names.proofs.LocalLaws.{public_count}
use Rattle.check_names.proofs.locals.local_count.Goals as goal

pub returns : goal.returns
returns c = c.public_count.ensures ∙ public_count c.args.tree.now c.args.scope.0 c.names.result.now (c.names.ensures c.args.tree.now c.requires)
