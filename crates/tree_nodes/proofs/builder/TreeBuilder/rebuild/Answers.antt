-- Kids that were added before a refusal change no row; the row at the end says what the other says over them.
use Rattle.std.proofs.Common.{◌≡◌, ◌+◌, ◌∙◌, ap, List, length, arith}
use Rattle.tree_nodes.specs.declared.builder.BuiltRow.{BuiltRow}
use Rattle.tree_nodes.specs.Built.{sizes_in, total}
use Rattle.tree_nodes.proofs.RowLaws.{on_err, same-tree, length-view, earlier-tree}
use Rattle.tree_nodes.proofs.RowAccess.{refused-built, refused-rows, rebuild-built, rebuild-rows, rebuild-tree}
use Rattle.tree_nodes.proofs.builder.TreeBuilder.rebuild.Goals as goal

pub invariant_of-self-in_err-push : goal.invariant_of-self-in_err-push
invariant_of-self-in_err-push c = refused-built _ _ _ _ _ _ c.in_ok-kids.ensures.ok c.in_err-push.ensures.items c.self.invariant

pub returns-in_err-push-clause-err : goal.returns-in_err-push-clause-err
returns-in_err-push-clause-err c = on_err _ _ (refused-rows _ _ _ _ _ _ _ c.in_ok-kids.ensures.ok c.in_err-push.ensures.items c.self.view_is c.self.invariant)

pub returns-in_err-push-clause-earlier : goal.returns-in_err-push-clause-earlier
returns-in_err-push-clause-earlier c = λ n _. same-tree _ _ n (refused-rows _ _ _ _ _ _ _ c.in_ok-kids.ensures.ok c.in_err-push.ensures.items c.self.view_is c.self.invariant)

pub invariant_of-self-2 : goal.invariant_of-self-2
invariant_of-self-2 c =
    rebuild-built _ _ _ _ _ _ _ _ _ c.args.kind _ _ c.in_ok-kids.ensures.ok c.in_ok-push.ensures.items c.self.view_is c.self.invariant c.requires.row c.index.ensures c.in_ok-kids.ensures.span.0 c.in_ok-kids.ensures.span.1 c.requires.kids
    (c.in_ok-size.ensures ∙ ap (λ (rs : List BuiltRow). 1 + total (sizes_in rs) c.args.kids.now) c.as_slice.ensures.value)

pub returns-clause-earlier : goal.returns-clause-earlier
returns-clause-earlier c =
    λ n l. earlier-tree _ _ _ n
    (rebuild-rows _ _ _ _ _ _ _ c.index.result.now c.args.kind c.in_ok-kids.kids c.in_ok-size.size c.in_ok-kids.ensures.ok c.in_ok-push.ensures.items c.self.view_is c.self.invariant c.in_ok-kids.ensures.span.0 c.in_ok-kids.ensures.span.1) l

pub returns-clause-tree : goal.returns-clause-tree
returns-clause-tree c =
    let number_is : c.in_ok-number.number ≡ length c.args.self.now = omega (arith, c.in_ok-number.ensures.0, c.len.ensures, length-view _ _ _ _ c.self.view_is) in
    rebuild-tree _ _ _ _ _ _ _ _ c.index.result.now c.args.kind c.in_ok-kids.kids c.in_ok-size.size c.self.view_is c.self.invariant c.requires.row c.index.ensures
    (rebuild-rows _ _ _ _ _ _ _ c.index.result.now c.args.kind c.in_ok-kids.kids c.in_ok-size.size c.in_ok-kids.ensures.ok c.in_ok-push.ensures.items c.self.view_is c.self.invariant c.in_ok-kids.ensures.span.0 c.in_ok-kids.ensures.span.1) number_is
