use Rattle.std.proofs.Common.{◌≡◌, Some, drop}
use Rattle.py_grammar.specs.Tests.{in_order, in_order_from}
use Rattle.py_forest.specs.Forests.{trees}
use Rattle.py_forest.proofs.forest.Forest.in_order.Given as goal

abbrev pub invariant-loop-place : goal.invariant-loop-place
invariant-loop-place l = in_order_from (Some l.order) (drop l.place (trees l.self)) ≡ in_order (drop l.mark (trees l.self))
