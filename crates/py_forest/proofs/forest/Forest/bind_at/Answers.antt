use Rattle.std.proofs.Common.{arith, ap, ◌∙◌, ◌≤◌, length, sym, refl}
use Rattle.std.proofs.lemmas.List.{length-map}
use Rattle.tree_nodes.specs.Trees.{Tree}
use Rattle.tree_nodes.specs.Rows.{with_kind}
use Rattle.py_grammar.specs.Tests.{as_target}
use Rattle.py_forest.specs.Forests.{trees, tree_at}
use Rattle.py_forest.proofs.ChangeLaws.{tree_at_place, row_made, set_tops, set_trees}
use Rattle.py_forest.proofs.forest.Forest.bind_at.Goals as goal

pub index-requires : goal.index-requires
unfolding trees
index-requires c = omega (arith, c.requires, length-map c.args.self.now.tops.items (tree_at c.args.self.now.builder))

pub as_target-requires : goal.as_target-requires
unfolding trees
as_target-requires c = row_made c.args.self.now.builder c.args.self.now.tops.items c.args.place _ c.args.self.now.tops_are_made (omega (arith, c.requires, length-map c.args.self.now.tops.items (tree_at c.args.self.now.builder))) c.index.ensures

pub index_mut-requires : goal.index_mut-requires
unfolding trees
index_mut-requires c = omega (arith, c.requires, length-map c.args.self.now.tops.items (tree_at c.args.self.now.builder))

pub invariant_of-self-2 : goal.invariant_of-self-2
invariant_of-self-2 c = record {
  tops_are_made =
      set_tops c.args.self.now.builder c.as_target.new.builder c.args.self.now.tops.items _ c.args.place c.in_ok-row.row c.kind-kind.result c.in_ok-row.ensures.grows.stay c.in_ok-row.ensures.grows.longer c.args.self.now.tops_are_made refl
      c.in_ok-row.ensures.made c.kind-kind.ensures;
}

pub returns-clause-ok : goal.returns-clause-ok
unfolding trees
returns-clause-ok c =
    let here = tree_at_place c.args.self.now.builder c.args.self.now.tops.items c.args.place _ (omega (arith, c.requires, length-map c.args.self.now.tops.items (tree_at c.args.self.now.builder))) c.index.ensures in
    set_trees c.args.self.now.builder c.as_target.new.builder c.args.self.now.tops.items _ c.args.place c.in_ok-row.row c.kind-kind.result _ c.in_ok-row.ensures.grows.stay c.args.self.now.tops_are_made refl
    (c.in_ok-row.ensures.tree ∙ ap as_target here)
