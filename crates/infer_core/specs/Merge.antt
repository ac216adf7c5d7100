-- What a merge makes of a frozen table and of what a solver solved.
use Rattle.std.specs.Prelude.{ℕ, ◌+◌, ◌-◌, ◌^◌, min, length}
use Rattle.std.specs.List.{filter}
use Rattle.std.specs.FinMap as map
use Rattle.infer_equations.specs.Assignment.{Map, overlaid}
use Rattle.infer_core.specs.Right.{FrozenTable}

-- how many variables both have
unfoldable pub shared : Map → Map → ℕ
shared m n = length (filter (λ v. map.contains_key m v) (map.keys n))

-- a count of 64 bits that rises by n, and stands still at its end
abbrev pub risen : ℕ → ℕ → ℕ
risen count n = min (count + n) (2 ^ 64 - 1)

-- the variables of both, each with its set, the old one where both have it; and those that both have were solved again
abbrev pub merged : FrozenTable → Map → FrozenTable
merged f m = record { sets = overlaid f.sets m; again = risen f.again (shared f.sets m) }
