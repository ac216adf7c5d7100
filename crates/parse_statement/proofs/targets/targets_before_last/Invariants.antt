use Rattle.std.proofs.Common.{◌≡◌, drop}
use Rattle.py_grammar.specs.Statements.{targets_before_last}
use Rattle.py_forest.specs.Forests.{trees}
use Rattle.parse_statement.proofs.targets.targets_before_last.Given as goal

abbrev pub invariant-loop-place : goal.invariant-loop-place
invariant-loop-place l = targets_before_last (drop l.place (trees l.forest)) ≡ targets_before_last (drop l.mark (trees l.forest))
