use Rattle.std.proofs.Common.{◌≡◌, ◌++◌, length}
use Rattle.std.specs.Str.{bytes_eq}
use Rattle.call_binding.proofs.names.is_joined.Given as goal

abbrev pub invariant-loop-left : goal.invariant-loop-left
invariant-loop-left l = bytes_eq (l.left ++ l.back) l.rest ≡ bytes_eq (l.front ++ l.back) l.whole

abbrev pub decreases-loop-left : goal.decreases-loop-left
decreases-loop-left l = length l.left
