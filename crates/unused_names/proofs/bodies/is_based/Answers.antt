use Rattle.std.proofs.Common.{arith, false}
use Rattle.scope_bind.proofs.ListLaws.{list_length, list_get}
use Rattle.unused_names.specs.Arguments.{has_bases}
use Rattle.unused_names.proofs.bodies.is_based.Goals as goal

pub bounds-based-n : goal.bounds-based-n
bounds-based-n c = omega (arith, list_length (has_bases c.args.tree.now) _ c.args.based.now c.requires.based, c.requires.made)

pub returns : goal.returns
returns c = list_get (has_bases c.args.tree.now) _ c.args.based.now c.args.n.0 false c.requires.based c.requires.made
