-- Each turn gives out the next node in preorder; the end of the stack is the end of the tree.
use Rattle.std.proofs.Common.{List, [], ◌∷◌, ◌++◌, arith, ap, ◌∙◌}
use Rattle.tree_nodes.specs.declared.finish.Open.{Open}
use Rattle.tree_nodes.specs.Rows.{Row, tree_of}
use Rattle.tree_nodes.proofs.KeptLaws.{empty-of_length, below-same_length}
use Rattle.tree_nodes.proofs.FinishLaws.{linked-by, made-by, step-by, smaller-by, finishing-start, finished, finished-tree}
use Rattle.tree_nodes.proofs.builder.TreeBuilder.finish.Goals as goal

pub rows-init : goal.rows-init
rows-init c =
    finishing-start _ _ _ _ _ _ _ c.new-numbered.ensures.items c.new-out.ensures.items
    (c.in_ok-push.ensures.items ∙ ap (λ (os : List Open). os ++ record { row = c.args.root; above = 0 } ∷ []) c.new-stack.ensures.items)
    (below-same_length _ _ _ c.self.view_is c.requires)

pub give_out-requires-clause-linked : goal.give_out-requires-clause-linked
give_out-requires-clause-linked c = linked-by _ _ _ _ _ c.self.invariant c.deref-in-Some.ensures.value c.deref.ensures.value

pub give_out-requires-clause-made : goal.give_out-requires-clause-made
give_out-requires-clause-made c = made-by _ _ _ _ _ _ _ _ _ _ c.deref.ensures.value c.in-Some.ensures.items c.rows.invariant

pub rows-smaller : goal.rows-smaller
rows-smaller c =
    smaller-by _ _ _ _ _ _ _ _ _ _ _ _ _ _ c.self.invariant c.deref-in-Some.ensures.value c.deref.ensures.value c.in-Some.ensures.items c.in_ok-give_out.ensures c.rows.invariant

pub rows-preserved : goal.rows-preserved
rows-preserved c =
    step-by _ _ _ _ _ _ _ _ _ _ _ _ _ _ c.self.invariant c.deref-in-Some.ensures.value c.deref.ensures.value c.in-Some.ensures.items c.in_ok-give_out.ensures c.rows.invariant

pub invariant_of-result : goal.invariant_of-result
invariant_of-result c = finished _ _ _ _ _ _ (empty-of_length _ (omega (arith, c.in_default.ensures.cases.0))) c.rows.invariant

pub returns : goal.returns
returns c =
    finished-tree _ _ _ _ _ _ (empty-of_length _ (omega (arith, c.in_default.ensures.cases.0))) c.rows.invariant ∙ ap (λ (rs : List Row). tree_of rs c.args.root) c.self.view_is
