use Rattle.std.proofs.Common.{arith, List, ℕ, length, sym, subst}
use Rattle.tree_nodes.specs.Kept.{FitsIn}
use Rattle.tree_nodes.proofs.RowLaws.{length-view}
use Rattle.tree_nodes.proofs.RowAccess.{fits-row, row-kids-are, row-kids-earlier}
use Rattle.tree_nodes.proofs.builder.TreeBuilder.kids.Goals as goal

pub index-requires : goal.index-requires
index-requires c = omega (arith, c.requires, length-view _ _ _ _ c.self.view_is)

pub rows_within-requires : goal.rows_within-requires
rows_within-requires c =
    subst (λ (xs : List ℕ). FitsIn (length xs) c.index.result.now.kids) (sym c.as_slice.ensures.value) (fits-row _ _ _ _ _ _ c.self.view_is c.self.invariant c.requires c.index.ensures).kids_fit

pub returns-clause-trees : goal.returns-clause-trees
returns-clause-trees c = row-kids-are _ _ _ _ _ _ _ _ c.self.view_is c.self.invariant c.requires c.index.ensures c.rows_within.ensures c.as_slice.ensures.value

pub returns-clause-earlier : goal.returns-clause-earlier
returns-clause-earlier c = row-kids-earlier _ _ _ _ _ _ _ _ c.self.view_is c.self.invariant c.requires c.index.ensures c.rows_within.ensures c.as_slice.ensures.value
