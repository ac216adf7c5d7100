use Rattle.std.proofs.Common.{◌≡◌, ◌+◌, ◌-◌, ◌≤◌, length, drop}
use Rattle.std.specs.List.{prefix_len}
use Rattle.py_lexeme.specs.Scan.{is_in}
use Rattle.py_lexeme.proofs.characters.run.Given as goal

abbrev pub invariant-loop-end : goal.invariant-loop-end
invariant-loop-end l = (l.end + prefix_len (is_in l.class) (drop l.end l.cs) ≡ prefix_len (is_in l.class) l.cs) × (l.end ≤ length l.cs)

abbrev pub decreases-loop-end : goal.decreases-loop-end
decreases-loop-end l = length l.cs - l.end
