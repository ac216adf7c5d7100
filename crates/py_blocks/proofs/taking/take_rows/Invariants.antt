use Rattle.std.proofs.Common.{map}
use Rattle.py_blocks.specs.Rows.{row_of}
use Rattle.py_blocks.specs.Building.{levels_of}
use Rattle.py_blocks.specs.Taking.{IsTaking}
use Rattle.py_blocks.proofs.taking.take_rows.Given as goal

abbrev pub invariant-loop-left : goal.invariant-loop-left
invariant-loop-left l = IsTaking l.fn.builder l.builder (map row_of l.rows) l.left (levels_of l.levels.items)

abbrev pub decreases-loop-left : goal.decreases-loop-left
decreases-loop-left l = l.left
