use Rattle.std.proofs.Common.{arith, false}
use Rattle.tree_nodes.specs.Trees.{count_of}
use Rattle.scope_bind.proofs.ListLaws.{list_length, list_get}
use Rattle.check_names.specs.Guards.{is_guarded}
use Rattle.check_names.proofs.guards.is_guarded.Goals as goal

pub bounds-guarded-n : goal.bounds-guarded-n
bounds-guarded-n c = omega (arith, c.requires.made, list_length (is_guarded c.args.tree.now) (count_of c.args.tree.now) c.args.guarded.now c.requires.guarded)

pub returns : goal.returns
returns c = list_get (is_guarded c.args.tree.now) (count_of c.args.tree.now) c.args.guarded.now c.args.n.0 false c.requires.guarded c.requires.made
