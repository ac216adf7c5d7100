use Rattle.std.proofs.Common.{◌∙◌, ap}
use Rattle.scope_bind.proofs.SpellLaws.{imported_as}
use Rattle.unused_names.specs.Reads.{plain_name}
use Rattle.unused_names.proofs.firsts.plain_imported.Goals as goal

pub returns-in-len1-up : goal.returns-in-len1-up
returns-in-len1-up c = c.plain_spelled.ensures ∙ ap plain_name (imported_as c.args.tree.now c.args.n.0 c.kids.result.now _ c.in-len1-up.len_at_least c.kids.ensures.value)
