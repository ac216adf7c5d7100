use Rattle.std.proofs.Common.{◌≡◌, ◌∙◌, false, sym}
use Rattle.std.specs.Bool.{IsTrue}
use Rattle.mro_c3.proofs.MergeSteps.{next_among-all, next_among-end, next_among-empty, next_among-blocked, next_among-free, head-below}
use Rattle.mro_c3.proofs.merge.next.Goals as goal
use Rattle.mro_c3.proofs.merge.next.Goals.{in-Some+else-is_uncounted, in_default}

pub loop-list-init : goal.loop-list-init
loop-list-init c = next_among-all c.args.lists.now

pub is_uncounted-requires : goal.is_uncounted-requires
is_uncounted-requires c =
    head-below _ c.args.lists.now c.loop-list.list-index c.list-item.result c.in-Some.number c.requires.below c.loop-list-test.true c.list-item.is (sym c.head.ensures ∙ c.in-Some.is)

pub returns-then-is_uncounted : goal.returns-then-is_uncounted
returns-then-is_uncounted c =
    sym
    (c.loop-list.invariant
    ∙ next_among-free c.args.lists.now c.args.lists.now c.loop-list.list-index c.list-item.result c.args.in_tails.now c.in-Some.number c.loop-list-test.true c.list-item.is (sym c.head.ensures ∙ c.in-Some.is) c.requires.counted
    (c.is_uncounted.ensures.0 c.if-is_uncounted.true))

pub loop-list-preserved : goal.loop-list-preserved
loop-list-preserved c =
    elim c.match-head.branch [
      | in-Some+else-is_uncounted w ↦
          c.loop-list.invariant
          ∙ next_among-blocked c.args.lists.now c.args.lists.now c.loop-list.list-index c.list-item.result c.args.in_tails.now w.in-Some.number c.loop-list-test.true c.list-item.is (sym c.head.ensures ∙ w.in-Some.is) c.requires.counted
          (λ free. let counted : IsTrue w.is_uncounted.result = w.is_uncounted.ensures.1 free in let none : w.is_uncounted.result ≡ false = w.if-is_uncounted.false in cc)
      | in_default w ↦ c.loop-list.invariant ∙ next_among-empty c.args.lists.now c.args.lists.now c.loop-list.list-index c.list-item.result c.loop-list-test.true c.list-item.is (sym c.head.ensures ∙ w.in_default.is)
    ]

pub returns : goal.returns
returns c = sym (c.loop-list.invariant ∙ next_among-end c.args.lists.now c.args.lists.now c.loop-list.list-index c.loop-list-test.false)
