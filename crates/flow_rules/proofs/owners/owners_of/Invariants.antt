use Rattle.rule_nodes.specs.Outwards.{owner_of}
use Rattle.flow_rules.specs.Tables.{IsListUpTo}
use Rattle.flow_rules.proofs.owners.owners_of.Given as goal

abbrev pub invariant-loop-n : goal.invariant-loop-n
invariant-loop-n l = IsListUpTo (owner_of l.tree) l.n l.owners.items
