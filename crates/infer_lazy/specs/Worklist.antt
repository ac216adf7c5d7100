-- The worklist: variables in progress, pairs of what was read and its reader, and variables that wait. A reader and a variable that waits are named by their places among those in progress.
use Rattle.std.specs.Prelude.{◌≡◌, ℕ, ◌+◌, ◌<◌, List, [], ◌∷◌, length, slice_index, Some, None, Option, ◌⊎◌, nat_eq}
use Rattle.std.specs.List.{Contains, IsDistinct, sum_by}
use Rattle.std.specs.List.Sorted.{IsStrictlySortedBy}
use Rattle.std.specs.BTreeSet.{insert_key}
use Rattle.std.specs.FinMap as map
use Rattle.infer_sets.specs.Sets.{Set, rank}
use Rattle.infer_equations.specs.Assignment.{Assignment, Map, Agree}
use Rattle.infer_equations.specs.Least.{least}
use Rattle.infer_reached.specs.Tables.{assigned}
use Rattle.infer_reached.specs.InProgress.{HasSet, InProgress}
use Rattle.infer_lazy.specs.Pairs.{pair_cmp}
use Rattle.infer_lazy.specs.Reach.{Dep, Reach}

-- the pairs with those of each of the variables that were read and are in progress, and of the place i of their reader
abbrev pub with_pair : Option Set → ℕ → ℕ → List (ℕ × ℕ) → List (ℕ × ℕ)
with_pair None i w ps = ps
with_pair (Some s) i w ps = insert_key pair_cmp ps (w, i)

abbrev pub paired : Map → ℕ → List ℕ → List (ℕ × ℕ) → List (ℕ × ℕ)
paired o i [] ps = ps
paired o i (w ∷ ws) ps = paired o i ws (with_pair (map.get o w) i w ps)

-- the set of the variable at place i is its right side wherever an assignment agrees on what it read, and each of these in progress is paired with i
pub record Known (right : ℕ → Assignment → Set) (t : Map × Map) (run : List ℕ) (pairs : List (ℕ × ℕ)) (i : ℕ) : Type 0 where
  pub read : List ℕ
  pub there : (w : ℕ) → Contains read w → HasSet t w
  pub again : (q : Assignment) → Agree read (assigned t) q → right (slice_index run i) q ≡ assigned t (slice_index run i)
  pub paired : (w : ℕ) → Contains read w → Contains run w → Contains pairs (w, i)

-- what stays true between two steps of the worklist: each variable in progress waits or is known
pub record Lazy (count limit : ℕ) (right : ℕ → Assignment → Set) (reads : ℕ → Assignment → List ℕ) (b o : Map) (starts run waits : List ℕ) (pairs : List (ℕ × ℕ)) : Type 0 where
  pub progress : InProgress count limit right (b, o) run
  pub known : (i : ℕ) → i < length run → Contains waits i ⊎ Known right (b, o) run pairs i
  pub waiting : (i : ℕ) → Contains waits i → i < length run
  pub pairs_in : (i w : ℕ) → Contains pairs (w, i) → (i < length run) × Contains run w × Dep (least count limit right) reads (slice_index run i) w
  pub reached : (v : ℕ) → Contains run v → Reach (least count limit right) reads starts v
  pub distinct : IsDistinct nat_eq run
  pub ordered : IsStrictlySortedBy pair_cmp pairs

-- what the steps may still cost: one for each variable in progress, and one for each rise of a variable that is read
unfoldable pub credit : ℕ → Map × Map → List ℕ → List (ℕ × ℕ) → ℕ
credit limit t run pairs = length run + sum_by (λ p. rank limit (assigned t p.0)) pairs
