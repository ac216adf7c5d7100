use Rattle.std.proofs.Common.{ℕ, ◌<◌}
use Rattle.std.specs.List.{All}
use Rattle.mro_c3.specs.Order.{bases}
use Rattle.mro_c3.proofs.row.bases_are_below.Given as goal

abbrev pub invariant-loop-class : goal.invariant-loop-class
invariant-loop-class l = (k : ℕ) → k < l.class → All (λ base. base < k) (bases l.rows k)
