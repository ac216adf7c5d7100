use Rattle.std.proofs.Common.{◌≡◌, ◌++◌, false, length, take, drop}
use Rattle.py_grammar.specs.Tests.{with_keyword_only}
use Rattle.py_forest.specs.Forests.{trees}
use Rattle.py_forest.proofs.forest.Forest.keyword_only_behind_star.Given as goal

abbrev pub invariant-loop-place : goal.invariant-loop-place
invariant-loop-place l = record {
  many : length (trees l.self) ≡ length (trees l.fn.self);
  all : take l.mark (trees l.fn.self) ++ with_keyword_only false (drop l.mark (trees l.fn.self)) ≡ take l.place (trees l.self) ++ with_keyword_only l.behind (drop l.place (trees l.self));
}
