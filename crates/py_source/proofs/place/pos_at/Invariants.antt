use Rattle.std.proofs.Common.{◌≡◌, ◌+◌, ◌≤◌, length}
use Rattle.py_source.specs.Places.{pos_from, pos_of}
use Rattle.py_source.proofs.place.pos_at.Given as goal

abbrev pub invariant-loop-left : goal.invariant-loop-left
invariant-loop-left l = record {
  same : pos_from l.at l.left l.rest ≡ pos_of l.text l.fn.place;
  line : l.at.line + l.left ≤ 1 + l.fn.place;
  col : l.at.col + l.left ≤ l.fn.place;
  left : l.left ≤ length l.rest;
}

abbrev pub decreases-loop-left : goal.decreases-loop-left
decreases-loop-left l = l.left
