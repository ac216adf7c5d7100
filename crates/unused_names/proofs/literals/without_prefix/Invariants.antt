use Rattle.std.proofs.Common.{◌≡◌, length}
use Rattle.unused_names.specs.Literals.{without_prefix}
use Rattle.unused_names.proofs.literals.without_prefix.Given as goal

abbrev pub invariant-loop-rest : goal.invariant-loop-rest
invariant-loop-rest l = without_prefix l.rest ≡ without_prefix l.literal

abbrev pub decreases-loop-rest : goal.decreases-loop-rest
decreases-loop-rest l = length l.rest
