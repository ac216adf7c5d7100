use Rattle.std.proofs.Common.{◌≡◌, drop, reverse}
use Rattle.py_layout.specs.Answers.{AllWithin}
use Rattle.py_layout.specs.Brackets.{open_behind, left_open}
use Rattle.py_layout.proofs.bracket.left_open.Given as goal

abbrev pub invariant-loop-place : goal.invariant-loop-place
invariant-loop-place l = record {
  open_so_far : open_behind (reverse l.opened.items) l.place (drop l.place l.items) ≡ left_open l.items;
  within : AllWithin l.place l.opened.items;
}
