use Rattle.std.proofs.Common.{sym, ◌∙◌}
use Rattle.std.specs.Bool.{IsTrue}
use Rattle.mro_c3.proofs.MergeSteps.{IsMergedBehind-used_up, no_merge, CountsTails-used_up, next_of-shorter, merged_step, left_step}
use Rattle.mro_c3.proofs.merge.merge.Goals as goal

pub loop-number-smaller : goal.loop-number-smaller
loop-number-smaller c = rw c.take_each.ensures.lists (next_of-shorter c.loop-number.lists c.in-Some.number (sym c.next.ensures ∙ c.in-Some.is))

pub loop-number-preserved : goal.loop-number-preserved
loop-number-preserved c = record {
  counted = c.take_each.ensures.counted;
  below = left_step _ _ c.in-Some.number c.loop-number.lists c.take_each.new.lists c.take_each.auto.in_tails c.take_each.ensures.lists c.loop-number.invariant.below;
  so_far =
      merged_step c.args.lists.now c.args.numbers.items c.loop-number.lists c.loop-number.numbers.items c.in-Some.number c.take_each.new.lists c.push.new.self.items
      (sym c.next.ensures ∙ c.in-Some.is) c.take_each.ensures.lists c.in_ok-push.ensures.items c.loop-number.invariant.so_far;
}

pub returns-then-is_used_up : goal.returns-then-is_used_up
returns-then-is_used_up c = record {
  merged =
      IsMergedBehind-used_up c.args.lists.now c.args.numbers.items c.loop-number.lists c.loop-number.numbers.items (c.is_used_up.ensures.0 c.if-is_used_up.true) c.loop-number.invariant.so_far;
  none = tt;
  empty = CountsTails-used_up c.loop-number.lists c.loop-number.in_tails (c.is_used_up.ensures.0 c.if-is_used_up.true) c.loop-number.invariant.counted;
}

pub returns-else-is_used_up : goal.returns-else-is_used_up
returns-else-is_used_up c = record {
  merged = tt;
  none =
      no_merge c.args.lists.now c.args.numbers.items c.loop-number.lists c.loop-number.numbers.items (sym c.next.ensures ∙ c.in_default.is)
      (λ empty. let used_up : IsTrue c.is_used_up.result = c.is_used_up.ensures.1 empty in cc) c.loop-number.invariant.so_far;
  empty = tt;
}
