use Rattle.std.proofs.Common.{◌≡◌, length}
use Rattle.std.specs.Prelude.{map}
use Rattle.std.specs.Str.{bytes_eq}
use Rattle.py_source.specs.Coding.{normal}
use Rattle.py_source.proofs.coding.is_spelled.Given as goal

abbrev pub invariant-loop-known : goal.invariant-loop-known
invariant-loop-known l = bytes_eq (map normal l.name) l.known ≡ bytes_eq (map normal l.initial.name) l.initial.known

abbrev pub decreases-loop-known : goal.decreases-loop-known
decreases-loop-known l = length l.known
