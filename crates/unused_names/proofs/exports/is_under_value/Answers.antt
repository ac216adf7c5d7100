use Rattle.std.proofs.Common.{arith, false}
use Rattle.scope_bind.proofs.ListLaws.{list_length, list_get}
use Rattle.unused_names.specs.Nodes.{is_under}
use Rattle.unused_names.specs.Exports.{is_all_value}
use Rattle.unused_names.proofs.exports.is_under_value.Goals as goal

pub bounds-under-n : goal.bounds-under-n
bounds-under-n c = omega (arith, list_length (is_under (is_all_value c.args.tree.now) c.args.tree.now) _ c.args.under.now c.requires.under, c.requires.made)

pub returns : goal.returns
returns c = list_get (is_under (is_all_value c.args.tree.now) c.args.tree.now) _ c.args.under.now c.args.n.0 false c.requires.under c.requires.made
