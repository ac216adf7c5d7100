-- The row at the end says what the other says, but its kind; its name and kids are the other's.
use Rattle.std.proofs.Common.{◌≡◌, length, arith}
use Rattle.tree_nodes.proofs.RowLaws.{length-view, earlier-tree}
use Rattle.tree_nodes.proofs.RowAccess.{retag-built, retag-tree, added-rows}
use Rattle.tree_nodes.proofs.builder.TreeBuilder.retag.Goals as goal

pub invariant_of-self-2 : goal.invariant_of-self-2
invariant_of-self-2 c = retag-built _ _ _ _ _ _ _ c.args.kind c.in_ok-push.ensures.items c.self.view_is c.self.invariant c.requires c.index-new.ensures

pub returns-clause-earlier : goal.returns-clause-earlier
returns-clause-earlier c = λ n l. earlier-tree _ _ _ n (added-rows _ _ _ _ _ _ c.in_ok-push.ensures.items c.self.view_is) l

pub returns-clause-tree : goal.returns-clause-tree
returns-clause-tree c =
    let number_is : c.in_ok-number.number ≡ length c.args.self.now = omega (arith, c.in_ok-number.ensures.0, c.len.ensures, length-view _ _ _ _ c.self.view_is) in
    retag-tree _ _ _ _ _ _ _ _ c.args.kind c.self.view_is c.self.invariant c.requires c.index-new.ensures (added-rows _ _ _ _ _ _ c.in_ok-push.ensures.items c.self.view_is) number_is
