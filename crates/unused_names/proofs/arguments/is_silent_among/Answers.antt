use Rattle.std.proofs.Common.{arith, false}
use Rattle.scope_bind.proofs.ListLaws.{list_length, list_get}
use Rattle.unused_names.specs.Arguments.{is_silent}
use Rattle.unused_names.proofs.arguments.is_silent_among.Goals as goal

pub bounds-silent-n : goal.bounds-silent-n
bounds-silent-n c = omega (arith, list_length (is_silent c.args.tree.now) _ c.args.silent.now c.requires.silent, c.requires.made)

pub returns : goal.returns
returns c = list_get (is_silent c.args.tree.now) _ c.args.silent.now c.args.n.0 false c.requires.silent c.requires.made
