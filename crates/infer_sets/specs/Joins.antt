-- Joins that are remembered, by the two numbers and the limit.
use Rattle.std.specs.Prelude.{◌≡◌, ℕ, ◌<◌, List, length, Some, refl}
use Rattle.std.specs.Coded.{Coded, code_by, coded×, coded_ℕ}
use Rattle.std.specs.Ordering.{nat_cmp, ordering_then}
use Rattle.std.specs.FinMap as map
use Rattle.std.specs.declared.cmp.Ordering.{Ordering}
use Rattle.infer_sets.specs.Sets.{Set, joined}
use Rattle.infer_sets.specs.Numbers.{set_at, IsNumber, numbers_code}

abbrev pub Pair : Type 0
Pair = ℕ × ℕ × ℕ

abbrev pub pair_code : Coded Pair
pair_code = code_by (ℕ × (ℕ × ℕ)) (coded× coded_ℕ (coded× coded_ℕ coded_ℕ)) (λ p. (p.0, (p.1, p.2))) (λ q. (q.0, q.1.0, q.1.1)) (λ _. refl)

abbrev pub pair_cmp : Pair → Pair → Ordering
pair_cmp p q = ordering_then (ordering_then (nat_cmp p.0 q.0) (nat_cmp p.1 q.1)) (nat_cmp p.2 q.2)

abbrev pub Joins : Type 0
Joins = map.FinMap pair_cmp ℕ

abbrev pub joins_code : Coded Joins
joins_code = map.code pair_code coded_ℕ

-- a layer: all sets that have a number, those of the base first, and the joins that it remembers
pub record Layer : Type 0 where
  pub sets : List Set
  pub joins : Joins

abbrev pub layer_code : Coded Layer
layer_code = code_by (List Set × Joins) (coded× numbers_code joins_code) (λ l. (l.sets, l.joins)) (λ p. record { sets = p.0; joins = p.1 }) (λ _. refl)

-- each remembered number is that of the join of two sets that have numbers
pub record AreJoined (numbers : List Set) (joins : Joins) : Type 0 where
  pub at : (a b limit id : ℕ) → map.get joins (a, b, limit) ≡ Some id → (a < length numbers) × (b < length numbers) × IsNumber numbers id (joined limit (set_at numbers a) (set_at numbers b))

-- the map of a list of entries
abbrev pub joins_of : List (Pair × ℕ) → Joins
joins_of es = map.from_entries es
