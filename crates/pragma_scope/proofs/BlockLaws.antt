-- One more node's block.
use Rattle.std.proofs.Common.{◌≡◌, ℕ, ◌+◌, ◌++◌}
use Rattle.std.specs.List.{flat_map}
use Rattle.tree_nodes.specs.Trees.{Tree}
use Rattle.scope_rules.specs.Nodes.{below}
use Rattle.rule_nodes.proofs.Below.{flat_more}
use Rattle.pragma_scope.specs.Blocks.{block_at}

-- the blocks of one node more
pub blocks_more : (t : Tree) (n : ℕ) → flat_map (block_at t) (below (n + 1)) ≡ flat_map (block_at t) (below n) ++ block_at t n
blocks_more t n = flat_more (block_at t) n
