use Rattle.std.proofs.Common.{◌≡◌, ◌<◌, ◌+◌, ◌≤◌, map, length}
use Rattle.std.specs.Prelude.{All}
use Rattle.tree_nodes.specs.Trees.{count_of}
use Rattle.tree_nodes.specs.Kept.{number_of}
use Rattle.flow_rules.specs.Sizes.{parameters_among}
use Rattle.flow_rules.proofs.sizes.parameters_among.Given as goal

abbrev pub invariant-loop-kid : goal.invariant-loop-kid
invariant-loop-kid l = record {
  made : All (λ k. k.0 < count_of l.tree) l.rest;
  within : l.len + length l.rest ≤ length l.kids;
  same : l.len + parameters_among l.tree (map number_of l.rest) ≡ parameters_among l.tree (map number_of l.kids);
}

abbrev pub decreases-loop-kid : goal.decreases-loop-kid
decreases-loop-kid l = length l.rest
