-- Each turn binds the next kid; at the end all are bound.
use Rattle.std.proofs.Common.{◌≡◌, true, unwrap_or, ◌<◌, ◌≤◌, length, take, map, List, ℕ, ap, sym, ◌∙◌, arith}
use Rattle.std.proofs.lemmas.List.{take_all}
use Rattle.tree_nodes.specs.Rows.{tree_of, with_kind}
use Rattle.tree_nodes.specs.Trees.{pack}
use Rattle.py_grammar.specs.Tests.{is_group, target_kind}
use Rattle.py_forest.proofs.TargetLaws.{stay_both, made_turn, bind_turn, group_target}
use Rattle.py_forest.proofs.targets.+as_target.Goals as goal

pub loop-id-preserved : goal.loop-id-preserved
loop-id-preserved t c =
    let i = c.loop-id.invariant in
    let g = c.in_ok-new.ensures.grows in
    record {
      grows = record { longer = omega (arith, i.grows.longer, g.longer); stay = stay_both _ _ _ i.grows.stay i.grows.longer g.stay };
      made = made_turn _ _ _ _ _ g.longer i.made c.in_ok-push.ensures.items c.in_ok-new.ensures.made;
      earlier = i.earlier;
      are = i.are;
      bound =
          bind_turn _ _ _ c.deref-id-items.result.now _ _ c.loop-id.id-index _ _ i.grows.stay g.stay i.made i.bound c.in_ok-push.ensures.items c.in_ok-new.ensures.tree c.loop-id-test.true
          (omega (arith, c.requires, i.earlier c.loop-id.id-index 0 c.loop-id-test.true));
    }

pub returns-clause-tree : goal.returns-clause-tree
returns-clause-tree t c =
    let i = c.loop-id.invariant in
    let kind_is : c.unwrap_or-target.result ≡ unwrap_or (target_kind (tree_of c.args.builder.now c.args.row).node.kind) (tree_of c.args.builder.now c.args.row).node.kind = grind arith in
    let group : is_group (tree_of c.args.builder.now c.args.row).node.kind ≡ true = grind arith in
    group_target c.args.builder.now c.loop-id.builder c.deref-id-items.result.now c.loop-id.kids.items c.loop-id.id-index (tree_of c.args.builder.now c.args.row) _ (tree_of c.loop-id.builder c.args.row) c.unwrap_or-target.result kind_is group i.are i.bound
    (omega (arith, c.loop-id-test.false)) (i.grows.stay c.args.row c.requires)
    (c.in_ok-rebuild.ensures.tree ∙ ap (λ (xs : List ℕ). with_kind c.unwrap_or-target.result (pack (map (tree_of c.loop-id.builder) xs)) (tree_of c.loop-id.builder c.args.row)) c.as_slice.ensures.value)
