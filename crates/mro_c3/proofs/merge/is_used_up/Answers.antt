use Rattle.std.proofs.Common.{◌∙◌, sym, refl}
use Rattle.mro_c3.proofs.MergeSteps.{heads-empty, heads-headed, heads-end, not_used_up}
use Rattle.mro_c3.proofs.merge.is_used_up.Goals as goal

pub returns-in-Some : goal.returns-in-Some
returns-in-Some c =
    not_used_up _ _ _
    (c.loop-list.invariant ∙ heads-headed c.args.lists.now c.loop-list.list-index c.list-item.result c.in-Some.field-0 c.loop-list-test.true c.list-item.is (sym c.head.ensures ∙ c.in-Some.is))

pub loop-list-preserved : goal.loop-list-preserved
loop-list-preserved c =
    c.loop-list.invariant ∙ heads-empty c.args.lists.now c.loop-list.list-index c.list-item.result c.loop-list-test.true c.list-item.is (sym c.head.ensures ∙ c.in_default.is)

pub returns : goal.returns
returns c = (λ _. c.loop-list.invariant ∙ heads-end c.args.lists.now c.loop-list.list-index c.loop-list-test.false, λ _. refl)
