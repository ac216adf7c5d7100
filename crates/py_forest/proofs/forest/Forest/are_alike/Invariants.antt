use Rattle.std.proofs.Common.{◌≡◌, drop}
use Rattle.py_grammar.specs.Expressions.{are_all, are_alike}
use Rattle.py_forest.specs.Forests.{trees}
use Rattle.py_forest.proofs.forest.Forest.are_alike.Given as goal

abbrev pub invariant-loop-place : goal.invariant-loop-place
invariant-loop-place l = are_all l.of_dict (drop l.place (trees l.self)) ≡ are_alike (drop l.mark (trees l.self))
