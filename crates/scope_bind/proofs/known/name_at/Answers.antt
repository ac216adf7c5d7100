use Rattle.std.proofs.Common.{◌≡◌, ◌∙◌, sym, arith, length}
use Rattle.scope_bind.proofs.ListLaws.{list_length, list_get}
use Rattle.scope_rules.specs.Mangling.{spelled}
use Rattle.scope_bind.proofs.known.name_at.Goals as goal

pub bounds-names-n : goal.bounds-names-n
bounds-names-n c = omega (arith, list_length (spelled c.args.tree.now) _ c.args.names.now c.requires.names, c.requires.made)

pub returns : goal.returns
returns c = c.index-names-n.is ∙ list_get (spelled c.args.tree.now) _ c.args.names.now c.args.n.0 c.index-names-n.result c.requires.names c.requires.made
