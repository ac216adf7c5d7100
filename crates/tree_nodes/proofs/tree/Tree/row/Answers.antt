use Rattle.std.proofs.Common.{arith}
use Rattle.tree_nodes.proofs.Reading.{count-is, row-is}
use Rattle.tree_nodes.proofs.tree.Tree.row.Goals as goal

pub index-requires : goal.index-requires
index-requires c = omega (arith, count-is _ _ _ _ c.self.view_is c.self.invariant)

pub returns : goal.returns
returns c = row-is _ _ _ _ _ _ c.self.view_is c.self.invariant c.requires c.index.ensures
