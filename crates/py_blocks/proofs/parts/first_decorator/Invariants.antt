use Rattle.std.proofs.Common.{◌≡◌, ◌≤◌, ◌++◌, length, map, reverse, drop}
use Rattle.py_blocks.specs.Rows.{row_of}
use Rattle.py_blocks.specs.Statements.{gathered}
use Rattle.py_blocks.proofs.GatheredLaws.{nodes_of, gathered_to}
use Rattle.py_blocks.proofs.parts.first_decorator.Given as goal

abbrev pub invariant-loop-start : goal.invariant-loop-start
invariant-loop-start l = (l.start ≤ length l.before) × (gathered_to l.start l.before ++ nodes_of (drop l.start l.before) ≡ gathered (map row_of (reverse l.before)))

abbrev pub decreases-loop-start : goal.decreases-loop-start
decreases-loop-start l = l.start
