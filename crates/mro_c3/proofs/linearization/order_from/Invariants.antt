use Rattle.std.proofs.Common.{◌≡◌, [], length}
use Rattle.mro_c3.specs.Table.{CountsTails, HasOrders}
use Rattle.mro_c3.proofs.linearization.order_from.Given as goal

abbrev pub invariant-loop-class : goal.invariant-loop-class
invariant-loop-class l = record {
  size : length l.orders.items ≡ l.class;
  made : HasOrders l.rows l.marks l.orders.items;
  empty : CountsTails [] l.in_tails;
}
