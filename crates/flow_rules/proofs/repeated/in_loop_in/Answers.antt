use Rattle.std.proofs.Common.{false, arith}
use Rattle.tree_nodes.specs.Trees.{count_of}
use Rattle.flow_rules.specs.Outwards.{in_loop}
use Rattle.flow_rules.proofs.ListLaws.{list_length, list_get}
use Rattle.flow_rules.proofs.repeated.in_loop_in.Goals as goal

pub bounds-loops-n : goal.bounds-loops-n
bounds-loops-n c = omega (arith, list_length (in_loop c.args.tree.now) (count_of c.args.tree.now) c.args.loops.now c.requires.loops)

pub returns : goal.returns
returns c = list_get (in_loop c.args.tree.now) (count_of c.args.tree.now) c.args.loops.now c.args.n.0 false c.requires.loops c.requires.made
