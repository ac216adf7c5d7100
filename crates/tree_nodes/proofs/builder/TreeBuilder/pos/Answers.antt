use Rattle.std.proofs.Common.{arith}
use Rattle.tree_nodes.proofs.RowLaws.{length-view}
use Rattle.tree_nodes.proofs.RowAccess.{pos-is}
use Rattle.tree_nodes.proofs.builder.TreeBuilder.pos.Goals as goal

pub index-requires : goal.index-requires
index-requires c = omega (arith, c.requires, length-view _ _ _ _ c.self.view_is)

pub returns : goal.returns
returns c = pos-is _ _ _ _ _ _ c.self.view_is c.self.invariant c.requires c.index.ensures
