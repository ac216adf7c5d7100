-- Names and kids that were added before a refusal change no row; the row at the end stands over them.
use Rattle.std.proofs.Common.{◌≡◌, refl, ap, ◌∙◌, ◌+◌, arith, length, List, option_copied}
use Rattle.tree_nodes.specs.declared.builder.BuiltRow.{BuiltRow}
use Rattle.tree_nodes.specs.Built.{sizes_in, total}
use Rattle.tree_nodes.proofs.RowLaws.{on_err, built-grown-by, rows-grown-by, nothing_more, is_some-copied, built-add-by, rows-add-by, length-view, same-tree, earlier-tree, new-tree}
use Rattle.tree_nodes.proofs.builder.TreeBuilder.push.Goals as goal

pub invariant_of-self-in_err-kids : goal.invariant_of-self-in_err-kids
invariant_of-self-in_err-kids c =
    built-grown-by _ _ _ _ _ _ _ _ c.in_ok-name.ensures.ok (nothing_more _ _ c.in_err-kids.ensures.err) refl c.in_ok-name.ensures.utf8 c.self.invariant

pub returns-in_err-kids-clause-err : goal.returns-in_err-kids-clause-err
returns-in_err-kids-clause-err c =
    on_err _ _ (rows-grown-by _ _ _ _ _ _ _ _ _ c.in_ok-name.ensures.ok (nothing_more _ _ c.in_err-kids.ensures.err) refl c.self.invariant c.self.view_is)

pub invariant_of-self-in_err-push : goal.invariant_of-self-in_err-push
invariant_of-self-in_err-push c =
    built-grown-by _ _ _ _ _ _ _ _ c.in_ok-name.ensures.ok c.in_ok-kids.ensures.ok c.in_err-push.ensures.items c.in_ok-name.ensures.utf8 c.self.invariant

pub returns-in_err-push-clause-err : goal.returns-in_err-push-clause-err
returns-in_err-push-clause-err c =
    on_err _ _ (rows-grown-by _ _ _ _ _ _ _ _ _ c.in_ok-name.ensures.ok c.in_ok-kids.ensures.ok c.in_err-push.ensures.items c.self.invariant c.self.view_is)

pub invariant_of-self-2 : goal.invariant_of-self-2
invariant_of-self-2 c =
    built-add-by _ _ _ _ _ _ _ _ _ _ c.in_ok-name.ensures.ok c.in_ok-kids.ensures.ok c.in_ok-push.ensures.items c.self.view_is c.self.invariant c.in_ok-name.ensures.utf8
    c.in_ok-name.ensures.span.0 c.in_ok-name.ensures.span.1 c.in_ok-kids.ensures.span.0 c.in_ok-kids.ensures.span.1 c.requires
    (c.in_ok-size.ensures ∙ ap (λ (rs : List BuiltRow). 1 + total (sizes_in rs) c.args.kids.now) c.as_slice.ensures.value)

pub returns-clause-ok : goal.returns-clause-ok
returns-clause-ok c =
    rows-add-by _ _ _ _ _ _ _ _ _ (option_copied c.args.name) _ c.in_ok-name.ensures.ok c.in_ok-kids.ensures.ok c.in_ok-push.ensures.items c.self.view_is c.self.invariant
    c.in_ok-name.ensures.span.0 c.in_ok-name.ensures.span.1 c.in_ok-kids.ensures.span.0 c.in_ok-kids.ensures.span.1 refl
    (c.is_some-is_named.ensures ∙ is_some-copied c.args.name)

pub returns-in_err-kids-clause-earlier : goal.returns-in_err-kids-clause-earlier
returns-in_err-kids-clause-earlier c =
    λ n _. same-tree _ _ n (rows-grown-by _ _ _ _ _ _ _ _ _ c.in_ok-name.ensures.ok (nothing_more _ _ c.in_err-kids.ensures.err) refl c.self.invariant c.self.view_is)

pub returns-in_err-push-clause-earlier : goal.returns-in_err-push-clause-earlier
returns-in_err-push-clause-earlier c =
    λ n _. same-tree _ _ n (rows-grown-by _ _ _ _ _ _ _ _ _ c.in_ok-name.ensures.ok c.in_ok-kids.ensures.ok c.in_err-push.ensures.items c.self.invariant c.self.view_is)

pub returns-clause-earlier : goal.returns-clause-earlier
returns-clause-earlier c =
    λ n l. earlier-tree _ _ _ n (rows-add-by _ _ _ _ _ _ _ _ _ (option_copied c.args.name) _ c.in_ok-name.ensures.ok c.in_ok-kids.ensures.ok c.in_ok-push.ensures.items c.self.view_is c.self.invariant
    c.in_ok-name.ensures.span.0 c.in_ok-name.ensures.span.1 c.in_ok-kids.ensures.span.0 c.in_ok-kids.ensures.span.1 refl
    (c.is_some-is_named.ensures ∙ is_some-copied c.args.name)) l

pub returns-clause-tree : goal.returns-clause-tree
returns-clause-tree c =
    let number_is : c.in_ok-number.number ≡ length c.args.self.now = omega (arith, c.in_ok-number.ensures.0, c.len.ensures, length-view _ _ _ _ c.self.view_is) in
    new-tree _ _ _ _ (rows-add-by _ _ _ _ _ _ _ _ _ (option_copied c.args.name) _ c.in_ok-name.ensures.ok c.in_ok-kids.ensures.ok c.in_ok-push.ensures.items c.self.view_is c.self.invariant
    c.in_ok-name.ensures.span.0 c.in_ok-name.ensures.span.1 c.in_ok-kids.ensures.span.0 c.in_ok-kids.ensures.span.1 refl
    (c.is_some-is_named.ensures ∙ is_some-copied c.args.name)) number_is
