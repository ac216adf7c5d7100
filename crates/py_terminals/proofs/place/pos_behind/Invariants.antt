use Rattle.std.proofs.Common.{◌≡◌, ◌+◌, ◌≤◌, length}
use Rattle.py_source.specs.Places.{pos_from}
use Rattle.py_terminals.proofs.place.pos_behind.Given as goal

abbrev pub invariant-loop-left : goal.invariant-loop-left
invariant-loop-left l = record {
  same : pos_from l.at l.left l.rest ≡ pos_from l.fn.from l.fn.count l.text;
  line : l.at.line + l.left ≤ l.fn.from.line + l.fn.count;
  col : l.at.col + l.left ≤ l.fn.from.col + l.fn.count;
  left : l.left ≤ length l.rest;
}

abbrev pub decreases-loop-left : goal.decreases-loop-left
decreases-loop-left l = l.left
