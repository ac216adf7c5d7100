use Rattle.std.proofs.Common.{◌≡◌, drop, nat_le}
use Rattle.py_language.specs.Nesting.{nesting_of}
use Rattle.py_grammar.specs.Weights.{weight}
use Rattle.py_forest.specs.Forests.{trees}
use Rattle.parse_line.proofs.nesting.is_shallow.Given as goal

abbrev pub invariant-loop-place : goal.invariant-loop-place
invariant-loop-place l = nat_le (nesting_of weight (drop l.place (trees l.forest))) 200 ≡ nat_le (nesting_of weight (drop l.mark (trees l.forest))) 200
