use Rattle.std.proofs.Common.{◌∙◌, ap, Some}
use Rattle.scope_rules.specs.Nodes.{Name}
use Rattle.unused_names.specs.Reads.{plain_name}
use Rattle.unused_names.proofs.FirstBinders.{plain_imported_some, plain_imported_none}
use Rattle.unused_names.proofs.firsts.plain_first_part.Goals as goal

pub returns-in-Some : goal.returns-in-Some
returns-in-Some c = c.unless_exempt.ensures ∙ ap (λ (y : Name). plain_name (Some y)) c.before_dot.ensures ∙ plain_imported_some c.args.tree.now c.args.n.0 c.in-Some.name.now c.in-Some.ensures

pub returns-in-None : goal.returns-in-None
returns-in-None c = plain_imported_none c.args.tree.now c.args.n.0 c.in-None.ensures
