use Rattle.std.proofs.Common.{◌≡◌, ◌<◌, arith, Some, List, length, sym, subst}
use Rattle.lint_values.specs.declared.place.NodeId.{NodeId}
use Rattle.tree_nodes.specs.Trees.{count_of, parent_at}
use Rattle.tree_nodes.specs.Kept.{FitsIn}
use Rattle.tree_nodes.proofs.Reading.{count-is, fits-is, kids-is, all_kids, all-of_numbers}
use Rattle.tree_nodes.proofs.EntryLaws.{kids-behind, kids-made, kids-parent, kids-ascend}
use Rattle.tree_nodes.proofs.ShapeLaws.{shaped-at}
use Rattle.tree_nodes.proofs.tree.Tree.kids.Goals as goal

pub index-requires : goal.index-requires
index-requires c = omega (arith, count-is _ _ _ _ c.self.view_is c.self.invariant)

pub kids_within-requires : goal.kids_within-requires
kids_within-requires c =
    subst (λ (xs : List NodeId). FitsIn (length xs) c.index.result.now.kids) (sym c.as_slice.ensures.value) (fits-is _ _ _ _ _ _ c.self.view_is c.self.invariant c.requires c.index.ensures).kids_fit

pub returns-clause-value : goal.returns-clause-value
returns-clause-value c =
    all_kids _ _ _ c.index.result.now.kids _ c.kids_within.ensures c.as_slice.ensures.value (kids-is _ _ _ _ _ _ c.self.view_is c.self.invariant c.requires c.index.ensures)

pub returns-clause-behind : goal.returns-clause-behind
returns-clause-behind c =
    all-of_numbers (λ k. c.args.n.0 < k) _ _ (all_kids _ _ _ c.index.result.now.kids _ c.kids_within.ensures c.as_slice.ensures.value (kids-is _ _ _ _ _ _ c.self.view_is c.self.invariant c.requires c.index.ensures))
    (kids-behind _ _ c.requires)

pub returns-clause-made : goal.returns-clause-made
returns-clause-made c =
    all-of_numbers (λ k. k < count_of c.args.self.now) _ _ (all_kids _ _ _ c.index.result.now.kids _ c.kids_within.ensures c.as_slice.ensures.value (kids-is _ _ _ _ _ _ c.self.view_is c.self.invariant c.requires c.index.ensures))
    (kids-made _ _ c.requires)

pub returns-clause-parent : goal.returns-clause-parent
returns-clause-parent c =
    all-of_numbers (λ k. parent_at c.args.self.now k ≡ Some c.args.n.0) _ _ (all_kids _ _ _ c.index.result.now.kids _ c.kids_within.ensures c.as_slice.ensures.value (kids-is _ _ _ _ _ _ c.self.view_is c.self.invariant c.requires c.index.ensures))
    (kids-parent _ _ c.requires)

pub returns-clause-ascending : goal.returns-clause-ascending
returns-clause-ascending c = kids-ascend _ _ c.requires

pub returns-clause-shaped : goal.returns-clause-shaped
returns-clause-shaped c = λ shaped. shaped-at _ _ shaped c.requires
