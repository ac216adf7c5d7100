use Rattle.std.proofs.Common.{◌≡◌, ◌++◌, length, take, drop}
use Rattle.py_grammar.specs.Statements.{all_bound}
use Rattle.py_forest.specs.Forests.{trees}
use Rattle.parse_statement.proofs.targets.bind_all.Given as goal

abbrev pub invariant-loop-place : goal.invariant-loop-place
invariant-loop-place l = record {
  many : length (trees l.forest) ≡ length (trees l.fn.forest);
  all : take l.mark (trees l.fn.forest) ++ all_bound (drop l.mark (trees l.fn.forest)) ≡ take l.place (trees l.forest) ++ all_bound (drop l.place (trees l.forest));
}
