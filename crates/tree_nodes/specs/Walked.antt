-- The numbers of nodes in ascending order.
use Rattle.std.specs.Prelude.{ℕ, zero, suc, ◌+◌, List, [], ◌∷◌}
use Rattle.lint_values.specs.declared.place.NodeId.{NodeId}

-- so many numbers, from the first one on
abbrev pub ids_from : ℕ → ℕ → List NodeId
ids_from first zero = []
ids_from first (suc n) = record { 0 = first } ∷ ids_from (first + 1) n
