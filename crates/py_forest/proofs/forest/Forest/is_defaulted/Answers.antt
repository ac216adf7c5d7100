use Rattle.std.proofs.Common.{arith, ap, ◌∙◌}
use Rattle.std.proofs.lemmas.List.{length-map}
use Rattle.tree_nodes.specs.Trees.{Tree}
use Rattle.py_grammar.specs.Tests.{ends_with_default}
use Rattle.py_forest.specs.Forests.{trees, tree_at}
use Rattle.py_forest.proofs.ChangeLaws.{tree_at_place, row_made}
use Rattle.py_forest.proofs.forest.Forest.is_defaulted.Goals as goal

pub index-requires : goal.index-requires
unfolding trees
index-requires c = omega (arith, c.requires, length-map c.args.self.now.tops.items (tree_at c.args.self.now.builder))

pub ends_with_default-requires : goal.ends_with_default-requires
unfolding trees
ends_with_default-requires c = row_made c.args.self.now.builder c.args.self.now.tops.items c.args.place _ c.args.self.now.tops_are_made (omega (arith, c.requires, length-map c.args.self.now.tops.items (tree_at c.args.self.now.builder))) c.index.ensures

pub returns : goal.returns
unfolding trees
returns c = c.ends_with_default.ensures ∙ ap (λ (t : Tree). ends_with_default t.kids) (tree_at_place c.args.self.now.builder c.args.self.now.tops.items c.args.place _ (omega (arith, c.requires, length-map c.args.self.now.tops.items (tree_at c.args.self.now.builder))) c.index.ensures)
