-- The kids are rows, the trees below the mark stay, and the new row stands over the others.
use Rattle.std.proofs.Common.{◌++◌, ◌∷◌, [], drop, map, List, length, refl, ap, ◌∙◌, arith, length-append}
use Rattle.std.proofs.lemmas.List.{length-map}
use Rattle.py_forest.specs.declared.top.Top.{Top}
use Rattle.py_forest.specs.Forests.{trees, tree_at, row_of}
use Rattle.py_forest.proofs.TreeLaws.{kids_made, node_tops_or, node_trees}
use Rattle.py_forest.proofs.forest.Forest.node.Goals as goal

pub push-requires : goal.push-requires
push-requires c =
    kids_made _ _ c.args.mark _ c.args.self.now.tops_are_made (c.as_slice-2.ensures.value ∙ c.in_ok-rows_from.ensures.ok ∙ ap (λ (ts : List Top). map row_of (drop c.args.mark ts)) c.as_slice.ensures.value)

pub invariant_of-self-2 : goal.invariant_of-self-2
invariant_of-self-2 c = record {
  tops_are_made =
      node_tops_or c.args.self.now.builder c.push.new.self c.args.self.now.tops.items _ _ c.args.mark c.in_ok-row.row c.args.kind _ _ c.in_ok-row.ensures.earlier (ap length c.in_ok-row.ensures.ok ∙ length-append c.args.self.now.builder _)
      c.args.self.now.tops_are_made c.truncate.ensures.items c.push-2.ensures.items c.in_ok-row.ensures.number c.in_ok-row.ensures.tree refl;
}

pub returns-clause-ok : goal.returns-clause-ok
unfolding trees
returns-clause-ok c =
    node_trees c.args.self.now.builder c.push.new.self c.args.self.now.tops.items _ c.args.mark c.in_ok-row.row c.args.kind _ c.as_slice-2.result.now c.in_ok-row.ensures.earlier c.args.self.now.tops_are_made
    (c.in_ok-push.ensures.items ∙ ap (λ (ts : List Top). ts ++ record { row = c.in_ok-row.row; kind = c.args.kind } ∷ []) c.truncate.ensures.items) c.in_ok-row.ensures.tree
    (c.as_slice-2.ensures.value ∙ c.in_ok-rows_from.ensures.ok ∙ ap (λ (ts : List Top). map row_of (drop c.args.mark ts)) c.as_slice.ensures.value)
