use Rattle.std.proofs.Common.{◌≡◌, ◌++◌, map, drop}
use Rattle.py_forest.specs.Forests.{row_of}
use Rattle.py_forest.proofs.top.add_rows.Given as goal

abbrev pub invariant-loop-top : goal.invariant-loop-top
invariant-loop-top l = l.rows.items ++ map row_of (drop l.top-index l.tops) ≡ l.initial.rows.items ++ map row_of l.tops
