use Rattle.std.proofs.Common.{arith, List, ℕ, sym, subst, string_bytes}
use Rattle.tree_nodes.specs.Kept.{IsTextIn}
use Rattle.tree_nodes.proofs.RowLaws.{length-view}
use Rattle.tree_nodes.proofs.RowAccess.{fits-row, row-name-is}
use Rattle.tree_nodes.proofs.Reading.{name-there, name-none}
use Rattle.tree_nodes.proofs.builder.TreeBuilder.name.Goals as goal

pub index-requires : goal.index-requires
index-requires c = omega (arith, c.requires, length-view _ _ _ _ c.self.view_is)

pub text_within-text-requires : goal.text_within-text-requires
text_within-text-requires c =
    subst (λ (s : List ℕ). IsTextIn s c.index.result.now.label.name) (sym c.as_str.ensures.value) (fits-row _ _ _ _ _ _ c.self.view_is c.self.invariant c.requires c.index.ensures).name_fits

pub returns-then-label : goal.returns-then-label
returns-then-label c = name-there _ _ _ c.index.result.now.label _ c.text_within-text.ensures c.as_str.ensures.value c.if-label.true (row-name-is _ _ _ _ _ _ c.self.view_is c.self.invariant c.requires c.index.ensures)

pub returns-else-label : goal.returns-else-label
returns-else-label c = name-none (string_bytes c.self.inside.names) c.index.result.now.label _ c.if-label.false (row-name-is _ _ _ _ _ _ c.self.view_is c.self.invariant c.requires c.index.ensures)
