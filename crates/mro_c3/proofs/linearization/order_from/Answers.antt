use Rattle.std.proofs.Common.{◌∙◌, [], ap, length, subst, sym}
use Rattle.mro_c3.specs.Table.{CountsTails, HasBaseOrders, HasOrders}
use Rattle.mro_c3.proofs.LinearizationSteps.{HasBaseOrders-marked, HasOrders-nil, HasOrders-made, HasOrders-skipped, no_order_reached, size_pushed}
use Rattle.mro_c3.proofs.MergeSteps.{CountsTails-zeros}
use Rattle.mro_c3.proofs.linearization.order_from.Goals as goal
use Rattle.mro_c3.proofs.linearization.order_from.Goals.{then-marks-class+in_ok-order+in-Some+in_ok-push-in-Some, else-marks-class+in_ok-push}

pub loop-class-init : goal.loop-class-init
loop-class-init c = record {
  size = ap length c.new-orders.ensures.items;
  made = subst (λ orders. HasOrders c.args.rows.now c.args.marks.now orders) (sym c.new-orders.ensures.items) (HasOrders-nil c.args.rows.now c.args.marks.now);
  empty = CountsTails-zeros c.args.k c.args.in_tails.now c.requires.zeros;
}

pub order_of-requires-clause-made : goal.order_of-requires-clause-made
order_of-requires-clause-made c =
    subst (λ orders. HasBaseOrders c.args.rows.now c.loop-class.class orders) (sym c.deref.ensures.value)
    (HasBaseOrders-marked c.args.rows.now c.args.k c.loop-class.class c.args.marks.now c.loop-class.orders.items c.requires.below c.requires.marked c.if-marks-class.true
    c.loop-class.invariant.size c.loop-class.invariant.made)

pub returns-in-None-clause-none : goal.returns-in-None-clause-none
returns-in-None-clause-none c =
    no_order_reached c.args.rows.now c.args.k c.loop-class.class c.args.marks.now c.requires.marked c.if-marks-class.true (rw c.in-None.is at c.in_ok-order.ensures.none)

pub loop-class-preserved : goal.loop-class-preserved
loop-class-preserved c =
    elim c.if-marks-class.branch [
      | then-marks-class+in_ok-order+in-Some+in_ok-push-in-Some w ↦ record {
        size =
            size_pushed c.loop-class.class c.loop-class.orders.items c.if-marks-class.orders.items w.in-Some.order c.loop-class.invariant.size
            (rw w.orders-is w.in_ok-push-in-Some.ensures.items);
        made =
            HasOrders-made c.args.rows.now c.loop-class.class c.args.marks.now c.loop-class.orders.items c.if-marks-class.orders.items w.in-Some.order c.loop-class.invariant.size c.loop-class.invariant.made
            (rw w.in-Some.is at w.in_ok-order.ensures.order) (rw w.in-Some.is at w.in_ok-order.ensures.numbers) (rw w.orders-is w.in_ok-push-in-Some.ensures.items);
        empty = subst (λ in_tails. CountsTails [] in_tails) (sym w.in_tails-is) (rw w.in-Some.is at w.in_ok-order.ensures.empty);
      }
      | else-marks-class+in_ok-push w ↦ record {
        size =
            size_pushed c.loop-class.class c.loop-class.orders.items c.if-marks-class.orders.items w.from_vec.result c.loop-class.invariant.size
            (rw w.orders-is w.in_ok-push.ensures.items);
        made =
            HasOrders-skipped c.args.rows.now c.loop-class.class c.args.marks.now c.loop-class.orders.items c.if-marks-class.orders.items w.from_vec.result w.if-marks-class.false c.loop-class.invariant.size c.loop-class.invariant.made
            (w.from_vec.ensures ∙ w.new.ensures.items) (rw w.orders-is w.in_ok-push.ensures.items);
        empty = subst (λ in_tails. CountsTails [] in_tails) (sym w.in_tails-is) c.loop-class.invariant.empty;
      }
    ]
