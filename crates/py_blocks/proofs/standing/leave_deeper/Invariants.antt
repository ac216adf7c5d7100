use Rattle.std.proofs.Common.{◌≡◌, ◌||◌, reverse, length}
use Rattle.py_blocks.specs.Standing.{left, tries}
use Rattle.py_blocks.proofs.standing.leave_deeper.Given as goal

abbrev pub invariant-leave : goal.invariant-leave
invariant-leave l =
    record {
      tried : (l.leaves_try || tries l.level (reverse l.standing.items)) ≡ tries l.level (reverse l.initial.standing.items);
      left : left l.level (reverse l.standing.items) ≡ left l.level (reverse l.initial.standing.items);
    }

abbrev pub decreases-leave : goal.decreases-leave
decreases-leave l = length l.standing.items
