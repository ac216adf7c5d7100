use Rattle.std.proofs.Common.{◌≡◌, drop, map, Some, false}
use Rattle.tree_nodes.specs.Rows.{tree_of}
use Rattle.parse_pattern.specs.Orders.{in_order_from}
use Rattle.parse_pattern.proofs.orders.are_in_order.Given as goal

abbrev pub invariant-loop-row : goal.invariant-loop-row
invariant-loop-row l = in_order_from l.order (Some false) (map (tree_of l.builder) l.rows) ≡ in_order_from l.order (Some l.seen) (map (tree_of l.builder) (drop l.row-index l.rows))
