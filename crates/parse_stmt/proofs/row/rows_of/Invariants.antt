use Rattle.std.proofs.Common.{◌≡◌, ◌++◌, map, drop}
use Rattle.py_blocks.specs.Rows.{row_of}
use Rattle.parse_stmt.specs.Reading.{rows_from}
use Rattle.parse_stmt.proofs.row.rows_of.Given as goal

abbrev pub invariant-loop-n : goal.invariant-loop-n
invariant-loop-n l = map row_of l.rows.items ++ rows_from l.tokens l.n (drop l.n l.lines) ≡ rows_from l.tokens 0 l.lines
