use Rattle.std.proofs.Common.{arith}
use Rattle.tree_nodes.proofs.Reading.{count-is}
use Rattle.tree_nodes.proofs.tree.Tree.count.Goals as goal

pub returns : goal.returns
returns c = omega (arith, c.len.ensures, count-is _ _ _ _ c.self.view_is c.self.invariant)
