use Rattle.std.proofs.Common.{◌≡◌, length}
use Rattle.parse_stmt.specs.Reading.{AreKept}
use Rattle.parse_stmt.proofs.read.read_all.Given as goal

abbrev pub invariant-loop-n : goal.invariant-loop-n
invariant-loop-n l = (length l.lines.items ≡ l.n) × AreKept l.tokens l.builder 0 l.lines.items
