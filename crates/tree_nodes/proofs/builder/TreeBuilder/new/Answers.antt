use Rattle.tree_nodes.proofs.RowLaws.{built-none}
use Rattle.tree_nodes.proofs.builder.TreeBuilder.new.Goals as goal

pub invariant_of-result : goal.invariant_of-result
invariant_of-result c = built-none _ _ _ c.new.ensures.items
