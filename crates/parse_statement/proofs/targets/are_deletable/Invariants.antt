use Rattle.std.proofs.Common.{◌≡◌, drop}
use Rattle.py_grammar.specs.Statements.{are_deletable}
use Rattle.py_forest.specs.Forests.{trees}
use Rattle.parse_statement.proofs.targets.are_deletable.Given as goal

abbrev pub invariant-loop-place : goal.invariant-loop-place
invariant-loop-place l = are_deletable (drop l.place (trees l.forest)) ≡ are_deletable (drop l.mark (trees l.forest))
