use Rattle.std.proofs.Common.{◌<◌, [], ◌∷◌, length, subst, sym, ap, ◌∙◌, arith}
use Rattle.std.proofs.lemmas.List.{length-map, get_or-map, get_or_read}
use Rattle.tree_nodes.specs.Trees.{Tree, pack}
use Rattle.tree_nodes.specs.Back.{no_tree}
use Rattle.py_grammar.specs.Tests.{are_unstarred}
use Rattle.py_forest.specs.declared.top.Top.{Top}
use Rattle.py_forest.specs.Forests.{trees, tree_at}
use Rattle.parse_statement.proofs.targets.is_unstarred_at.Goals as goal

pub index-requires : goal.index-requires
unfolding trees
index-requires c = omega (arith, c.requires, length-map c.args.forest.now.tops.items (tree_at c.args.forest.now.builder), c.args.forest.now.tops.ok.0)

pub is_unstarred-requires : goal.is_unstarred-requires
unfolding trees
is_unstarred-requires c =
    let f = c.args.forest.now in
    let inside : c.args.place < length f.tops.items = omega (arith, c.requires, length-map f.tops.items (tree_at f.builder)) in
    let same = get_or_read f.tops.items c.args.place _ inside c.index.ensures c.index.result.now in
    subst (λ (t : Top). t.row < length f.builder) (sym same) (f.tops_are_made c.args.place c.index.result.now inside).made

pub returns : goal.returns
unfolding trees
returns c =
    let f = c.args.forest.now in
    let inside : c.args.place < length f.tops.items = omega (arith, c.requires, length-map f.tops.items (tree_at f.builder)) in
    let same = get_or_read f.tops.items c.args.place _ inside c.index.ensures c.index.result.now in
    c.is_unstarred.ensures ∙ ap (λ (t : Tree). are_unstarred (pack (t ∷ []))) (ap (tree_at f.builder) same ∙ sym (get_or-map (tree_at f.builder) f.tops.items c.args.place c.index.result.now no_tree inside))
