use Rattle.std.proofs.Common.{◌≡◌, ◌+◌, ◌++◌, map, drop}
use Rattle.read_lines.proofs.rows.shift.Given as goal

abbrev pub invariant-loop-number : goal.invariant-loop-number
invariant-loop-number l = l.given.items ++ map (λ k. l.by + k) (drop l.number-index l.numbers) ≡ map (λ k. l.by + k) l.numbers
