use Rattle.std.proofs.Common.{◌∙◌, ap}
use Rattle.scope_bind.proofs.SpellLaws.{imported_as}
use Rattle.check_names.specs.Nodes.{public_of}
use Rattle.check_names.proofs.public.imported.Goals as goal

pub returns-in-len1-up : goal.returns-in-len1-up
returns-in-len1-up c = c.public_spelled.ensures ∙ ap public_of (imported_as c.args.tree.now c.args.n.0 c.kids.result.now _ c.in-len1-up.len_at_least c.kids.ensures.value)
