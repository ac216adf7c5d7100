use Rattle.std.proofs.Common.{◌≡◌, ◌<◌, ◌+◌, ◌≤◌, map, length}
use Rattle.std.specs.Prelude.{All}
use Rattle.tree_nodes.specs.Trees.{count_of}
use Rattle.tree_nodes.specs.Kept.{number_of}
use Rattle.check_basic.specs.Nodes.{block_len}
use Rattle.check_basic.proofs.nodes.block_len.Given as goal

abbrev pub invariant-loop-kid : goal.invariant-loop-kid
invariant-loop-kid l = record {
  made : All (λ k. k.0 < count_of l.tree) l.rest;
  within : l.len + length l.rest ≤ length l.kids;
  same : l.len + block_len l.tree (map number_of l.rest) ≡ block_len l.tree (map number_of l.kids);
}

abbrev pub decreases-loop-kid : goal.decreases-loop-kid
decreases-loop-kid l = length l.rest
