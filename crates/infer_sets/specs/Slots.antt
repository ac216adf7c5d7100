-- Where the numbers of sets are kept, to be found again: under a digest and a probe, from probe 0 on.
use Rattle.std.specs.Prelude.{◌≡◌, ℕ, ◌<◌, ◌≤◌, List, length, Option, Some, None, cond, nat_lt}
use Rattle.std.specs.Map.{lookup}
use Rattle.std.specs.Ordering.{nat_cmp, ordering_then, eq_by_cmp}
use Rattle.std.specs.declared.cmp.Ordering.{Ordering}
use Rattle.infer_sets.specs.Sets.{Set}
use Rattle.infer_sets.specs.Numbers.{set_at, IsNumber}
use Rattle.infer_sets.specs.Digest.{IsDigest}

abbrev pub slot_cmp : ℕ × ℕ → ℕ × ℕ → Ordering
slot_cmp p q = ordering_then (nat_cmp p.0 q.0) (nat_cmp p.1 q.1)

-- what a slot has, by digest and probe
abbrev pub slot_at : List ((ℕ × ℕ) × ℕ) → ℕ → ℕ → Option ℕ
slot_at es d k = lookup (λ q. eq_by_cmp slot_cmp (d, k) q) es

-- a number that is not given is passed over
abbrev pub live : ℕ → Option ℕ → Option ℕ
live n None = None
live n (Some id) = cond (nat_lt id n) (Some id) None

-- a number that stands there, below a bound
pub record Holds (slots : ℕ → ℕ → Option ℕ) (d k bound : ℕ) : Type 0 where
  pub id : ℕ
  pub there : slots d k ≡ Some id
  pub below : id < bound

-- the number i stands under the digest, and behind lower numbers alone
pub record IsReached (slots : ℕ → ℕ → Option ℕ) (d i : ℕ) : Type 0 where
  pub probe : ℕ
  pub there : slots d probe ≡ Some i
  pub before : (j : ℕ) → j < probe → Holds slots d j i

-- each set's number is found, and no probe is above its number
pub record AreReached (numbers : List Set) (slots : ℕ → ℕ → Option ℕ) : Type 0 where
  pub least : (d k id : ℕ) → slots d k ≡ Some id → k ≤ id
  pub there : (i d : ℕ) → i < length numbers → IsDigest (set_at numbers i) d → IsReached slots d i

-- the first probe that is free
pub record IsFree (slots : ℕ → ℕ → Option ℕ) (n d k : ℕ) : Type 0 where
  pub most : k ≤ n
  pub free : live n (slots d k) ≡ None
  pub before : (j : ℕ) → j < k → Holds slots d j n

-- the number of the set, and none where no number is of it
unfoldable pub Finds : List Set → Set → Option ℕ → Type 0
Finds numbers s None = (i : ℕ) → i < length numbers → set_at numbers i ≡ s → ⊥
Finds numbers s (Some id) = IsNumber numbers id s
