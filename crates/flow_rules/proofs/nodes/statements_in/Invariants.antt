use Rattle.std.proofs.Common.{◌≡◌, ◌<◌, ◌++◌, map, length}
use Rattle.std.specs.Prelude.{All}
use Rattle.tree_nodes.specs.Trees.{count_of}
use Rattle.tree_nodes.specs.Kept.{number_of}
use Rattle.flow_rules.specs.Nodes.{statements_in}
use Rattle.flow_rules.proofs.nodes.statements_in.Given as goal

abbrev pub invariant-loop-kid : goal.invariant-loop-kid
invariant-loop-kid l = record {
  made : All (λ k. k.0 < count_of l.tree) l.rest;
  kept : All (λ k. k.0 < count_of l.tree) l.statements.items;
  told : map number_of l.statements.items ++ statements_in l.tree (map number_of l.rest) ≡ statements_in l.tree (map number_of l.kids);
}

abbrev pub decreases-loop-kid : goal.decreases-loop-kid
decreases-loop-kid l = length l.rest
