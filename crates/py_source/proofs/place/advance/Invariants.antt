use Rattle.std.proofs.Common.{◌≡◌, ◌+◌, ◌≤◌, length, take, encode_utf8_all}
use Rattle.py_source.specs.Places.{pos_from}
use Rattle.py_source.proofs.place.advance.Given as goal

abbrev pub invariant-loop-left : goal.invariant-loop-left
invariant-loop-left l = record {
  same : pos_from l.at (length (encode_utf8_all (take l.left l.rest))) (encode_utf8_all l.rest) ≡ pos_from l.fn.from (length (encode_utf8_all (take l.fn.count l.characters))) (encode_utf8_all l.characters);
  line : l.at.line + length (encode_utf8_all (take l.left l.rest)) ≤ l.fn.from.line + length (encode_utf8_all (take l.fn.count l.characters));
  col : l.at.col + length (encode_utf8_all (take l.left l.rest)) ≤ l.fn.from.col + length (encode_utf8_all (take l.fn.count l.characters));
  left : l.left ≤ length l.rest;
}

abbrev pub decreases-loop-left : goal.decreases-loop-left
decreases-loop-left l = l.left
