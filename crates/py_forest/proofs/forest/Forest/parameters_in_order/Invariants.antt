use Rattle.std.proofs.Common.{◌≡◌, Some, drop}
use Rattle.py_grammar.specs.Tests.{parameters_in_order, parameters_from}
use Rattle.py_forest.specs.Forests.{trees}
use Rattle.py_forest.proofs.forest.Forest.parameters_in_order.Given as goal

abbrev pub invariant-loop-place : goal.invariant-loop-place
invariant-loop-place l = parameters_from (Some l.stage) (drop l.place (trees l.self)) ≡ parameters_in_order (drop l.mark (trees l.self))
