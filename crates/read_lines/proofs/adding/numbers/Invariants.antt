use Rattle.std.proofs.Common.{◌≡◌, ◌++◌, map, drop}
use Rattle.read_lines.specs.Copies.{number_from}
use Rattle.read_lines.proofs.adding.numbers.Given as goal

abbrev pub invariant-loop-top : goal.invariant-loop-top
invariant-loop-top l = l.given.items ++ map (number_from l.by) (drop l.top-index l.tops) ≡ map (number_from l.by) l.tops
