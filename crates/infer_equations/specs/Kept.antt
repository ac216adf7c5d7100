-- Entries that are taken over from one map into another.
use Rattle.std.specs.Prelude.{ℕ, List, [], ◌∷◌, Option, Some, None}
use Rattle.std.specs.FinMap as map
use Rattle.std.specs.Ordering.{nat_cmp}

-- the map with the value, if there is one, for the variable
abbrev pub kept_by : {X : Type 0} → Option X → ℕ → map.FinMap nat_cmp X → map.FinMap nat_cmp X
kept_by None v m = m
kept_by (Some x) v m = map.insert m v x

-- the map n with the values that m has for some variables
abbrev pub taken_over : {X : Type 0} → map.FinMap nat_cmp X → List ℕ → map.FinMap nat_cmp X → map.FinMap nat_cmp X
taken_over m [] n = n
taken_over m (v ∷ vs) n = taken_over m vs (kept_by (map.get m v) v n)
