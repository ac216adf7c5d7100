use Rattle.std.proofs.Common.{None, arith}
use Rattle.tree_nodes.specs.Trees.{count_of}
use Rattle.rule_nodes.specs.Outwards.{owner_of}
use Rattle.flow_rules.proofs.ListLaws.{list_length, list_get}
use Rattle.flow_rules.proofs.owners.owner_in.Goals as goal

pub bounds-owners-n : goal.bounds-owners-n
bounds-owners-n c = omega (arith, list_length (owner_of c.args.tree.now) (count_of c.args.tree.now) c.args.owners.now c.requires.owners)

pub returns : goal.returns
returns c = list_get (owner_of c.args.tree.now) (count_of c.args.tree.now) c.args.owners.now c.args.n.0 None c.requires.owners c.requires.made
