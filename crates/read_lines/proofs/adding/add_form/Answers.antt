-- The trees of a form stand behind those of the builder.
use Rattle.std.proofs.Common.{◌∙◌, length, map, take, drop, ap, arith}
use Rattle.std.proofs.lemmas.List.{length-map}
use Rattle.py_forest.specs.Forests.{trees, tree_at}
use Rattle.read_lines.specs.Copies.{number_from}
use Rattle.read_lines.proofs.CopyLaws.{form_copied, nodes_below, body_below}
use Rattle.read_lines.proofs.adding.add_form.Goals as goal

pub split_at-requires : goal.split_at-requires
unfolding trees
split_at-requires c =
    let f = c.args.forest.now in
    omega (arith, c.requires, length-map f.tops.items (tree_at f.builder), ap length c.as_slice.ensures.value)

pub returns-clause-value : goal.returns-clause-value
unfolding trees
returns-clause-value c =
    let f = c.args.forest.now in
    let from = map (number_from c.in_ok-by.by) in
    form_copied c.in_ok-by.by c.args.builder.now c.add_rows.new.builder f.builder c.args.found.nodes f.tops.items c.in_ok-nodes.nodes.items c.in_ok-body.body.items c.args.found.head c.in_ok-add_rows.ensures.copied f.tops_are_made
    (c.in_ok-nodes.ensures ∙ ap from (c.split_at.ensures.front ∙ ap (take c.args.found.nodes) c.as_slice.ensures.value))
    (c.in_ok-body.ensures ∙ ap from (c.split_at.ensures.back ∙ ap (drop c.args.found.nodes) c.as_slice.ensures.value))

pub returns-clause-nodes : goal.returns-clause-nodes
returns-clause-nodes c =
    let f = c.args.forest.now in
    nodes_below c.in_ok-by.by c.args.builder.now c.add_rows.new.builder f.builder c.args.found.nodes f.tops.items c.in_ok-nodes.nodes.items c.in_ok-add_rows.ensures.copied f.tops_are_made
    (c.in_ok-nodes.ensures ∙ ap (map (number_from c.in_ok-by.by)) (c.split_at.ensures.front ∙ ap (take c.args.found.nodes) c.as_slice.ensures.value))

pub returns-clause-body : goal.returns-clause-body
returns-clause-body c =
    let f = c.args.forest.now in
    body_below c.in_ok-by.by c.args.builder.now c.add_rows.new.builder f.builder c.args.found.nodes f.tops.items c.in_ok-body.body.items c.in_ok-add_rows.ensures.copied f.tops_are_made
    (c.in_ok-body.ensures ∙ ap (map (number_from c.in_ok-by.by)) (c.split_at.ensures.back ∙ ap (drop c.args.found.nodes) c.as_slice.ensures.value))
