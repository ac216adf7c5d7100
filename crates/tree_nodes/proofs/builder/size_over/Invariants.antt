use Rattle.std.proofs.Common.{◌≡◌, ◌+◌, drop}
use Rattle.tree_nodes.specs.Built.{sizes_in, total}
use Rattle.tree_nodes.proofs.builder.size_over.Given as goal

abbrev pub invariant-loop-kid : goal.invariant-loop-kid
invariant-loop-kid l = l.size + total (sizes_in l.rows) (drop l.kid-index l.kids) ≡ 1 + total (sizes_in l.rows) l.kids
