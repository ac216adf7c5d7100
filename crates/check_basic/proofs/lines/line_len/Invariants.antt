use Rattle.std.proofs.Common.{◌≡◌, ℕ, ◌<◌, ◌≤◌, length, false, get_or}
use Rattle.check_basic.specs.Lines.{is_line_end}
use Rattle.check_basic.proofs.lines.line_len.Given as goal

abbrev pub invariant-loop-i : goal.invariant-loop-i
invariant-loop-i l = (l.i ≤ length l.text) × ((k : ℕ) → k < l.i → is_line_end (get_or l.text k 0) ≡ false)
