use Rattle.std.proofs.Common.{◌≡◌, ◌++◌, length, take, drop}
use Rattle.py_grammar.specs.Statements.{bound_before_last}
use Rattle.py_forest.specs.Forests.{trees}
use Rattle.parse_statement.proofs.targets.bind_before_last.Given as goal

abbrev pub invariant-loop-place : goal.invariant-loop-place
invariant-loop-place l = record {
  many : length (trees l.forest) ≡ length (trees l.fn.forest);
  all : take l.mark (trees l.fn.forest) ++ bound_before_last (drop l.mark (trees l.fn.forest)) ≡ take l.place (trees l.forest) ++ bound_before_last (drop l.place (trees l.forest));
}
