use Rattle.std.proofs.Common.{◌≡◌, drop, Some, false}
use Rattle.py_forest.specs.Forests.{trees}
use Rattle.parse_pattern.specs.Orders.{in_order_from}
use Rattle.parse_pattern.proofs.orders.is_in_order.Given as goal

abbrev pub invariant-loop-place : goal.invariant-loop-place
invariant-loop-place l = in_order_from l.order (Some false) (drop l.mark (trees l.forest)) ≡ in_order_from l.order (Some l.seen) (drop l.place (trees l.forest))
