-- What stays true of the tables while sets rise to the least solution.
use Rattle.std.specs.Prelude.{◌≡◌, ℕ, zero, suc, ◌+◌, ◌<◌, List, Some, None, Option, ◌⊎◌, IsSome}
use Rattle.std.specs.List.{Contains}
use Rattle.std.specs.FinMap as map
use Rattle.infer_sets.specs.Sets.{Set, Below, rank}
use Rattle.infer_equations.specs.Assignment.{Assignment, Map, Within, AllFit}
use Rattle.infer_equations.specs.Least.{least}
use Rattle.infer_reached.specs.Tables.{found, assigned}

abbrev pub HasSet : Map × Map → ℕ → Type 0
HasSet t w = (x : Set) × (found t w ≡ Some x)

-- `run` are the variables whose sets may still rise: each is in the second table and not in the first, and its set lies within its right side
pub record InProgress (count limit : ℕ) (right : ℕ → Assignment → Set) (t : Map × Map) (run : List ℕ) : Type 0 where
  pub within : Within (assigned t) (least count limit right)
  pub fits : AllFit limit (assigned t)
  pub rising : (v : ℕ) → Contains run v → Below (assigned t v) (right v (assigned t))
  pub apart : (v : ℕ) → Contains run v → map.get t.0 v ≡ None
  pub there : (v : ℕ) → Contains run v → HasSet t v
  pub counted : (v : ℕ) → Contains run v → v < count
  pub stored : (v : ℕ) → IsSome (map.get t.1 v) → Contains run v
  pub listed : (v : ℕ) (s : Set) → found t v ≡ Some s → (s ≡ least count limit right v) ⊎ Contains run v

-- what a variable weighs: nothing where it has no set, else one more than its set's rank
unfoldable pub weigh : ℕ → Option Set → ℕ
weigh limit None = 0
weigh limit (Some s) = rank limit s + 1

-- f at each number below n, added up
unfoldable pub total : (ℕ → ℕ) → ℕ → ℕ
total f zero = 0
total f (suc n) = f n + total f n

-- what all variables weigh
unfoldable pub weight : ℕ → ℕ → Map × Map → ℕ
weight count limit t = total (λ v. weigh limit (found t v)) count
