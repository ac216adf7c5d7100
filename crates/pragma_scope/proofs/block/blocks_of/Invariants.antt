use Rattle.std.proofs.Common.{◌≡◌}
use Rattle.std.specs.List.{flat_map}
use Rattle.scope_rules.specs.Nodes.{below}
use Rattle.pragma_scope.specs.Blocks.{block_at}
use Rattle.pragma_scope.proofs.block.blocks_of.Given as goal

abbrev pub invariant-loop-n : goal.invariant-loop-n
invariant-loop-n l = l.blocks.items ≡ flat_map (block_at l.tree) (below l.n)
