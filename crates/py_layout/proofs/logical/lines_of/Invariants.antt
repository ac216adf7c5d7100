use Rattle.std.proofs.Common.{◌≡◌, ◌+◌, ◌≤◌, length, reverse, vec_len}
use Rattle.py_layout.specs.Indentation.{ground, levelled}
use Rattle.py_layout.specs.LogicalLines.{lines_from, lines_of, parts_of}
use Rattle.py_layout.specs.Answers.{onto_all}
use Rattle.py_layout.proofs.logical.lines_of.Given as goal

abbrev pub invariant-loop-rest : goal.invariant-loop-rest
invariant-loop-rest l = record {
  lines : onto_all l.lines.items (levelled (reverse l.stack.items) (lines_from l.place l.token (parts_of 0 l.rest))) ≡ levelled ground (lines_of l.items);
  few : vec_len l.stack ≤ 100;
  size : l.place + length l.rest ≡ length l.items;
  tokens : l.token ≤ l.place;
}

abbrev pub decreases-loop-rest : goal.decreases-loop-rest
decreases-loop-rest l = length l.rest
