use Rattle.std.proofs.Common.{◌≡◌, ◌*◌, ◌≤◌, take}
use Rattle.py_layout.specs.Blanks.{widths_of}
use Rattle.py_layout.proofs.blank.widths_of.Given as goal

abbrev pub invariant-loop-c : goal.invariant-loop-c
invariant-loop-c l = record {
  so_far : l.widths ≡ widths_of (take l.c-index l.blanks);
  wide : l.widths.wide ≤ 8 * l.c-index;
  narrow : l.widths.narrow ≤ l.c-index;
}
