use Rattle.scope_rules.specs.Nodes.{nodes_of}
use Rattle.unused_names.specs.Variables.{locals_among}
use Rattle.unused_names.proofs.locals.is_listed.Goals as goal

pub returns : goal.returns
returns c = c.has_number.ensures (locals_among c.args.tree.now (nodes_of c.args.tree.now)) c.requires
