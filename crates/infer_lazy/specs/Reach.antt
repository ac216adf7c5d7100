-- Dependence between variables, what is reached from some, and how many steps a demand may take.
use Rattle.std.specs.Prelude.{◌≡◌, ℕ, ◌+◌, ◌*◌, ◌≤◌, List, length, None, IsSome}
use Rattle.std.specs.List.{Contains}
use Rattle.std.specs.FinMap as map
use Rattle.infer_sets.specs.Sets.{Set}
use Rattle.infer_equations.specs.Assignment.{Assignment, Map, Within, Agree}
use Rattle.infer_reached.specs.InProgress.{HasSet}

-- v may read w: some assignment within the least solution has w among the reads of v
pub record Dep (low : Assignment) (reads : ℕ → Assignment → List ℕ) (v w : ℕ) : Type 0 where
  pub at : Assignment
  pub within : Within at low
  pub read : Contains (reads v at) w

-- the least set of variables that holds the list and is closed under Dep
pub data Reach (low : Assignment) (reads : ℕ → Assignment → List ℕ) (starts : List ℕ) : ℕ → Type 0 where
  start : {v : ℕ} → Contains starts v → Reach low reads starts v
  on : {v w : ℕ} → Reach low reads starts v → Dep low reads v w → Reach low reads starts w

-- the steps are at most `vars + (limit + 2) * pairs` for all lists that hold the variables of N, and the pairs of Dep among them
abbrev pub IsCheap : ℕ → Assignment → (ℕ → Assignment → List ℕ) → (ℕ → Type 0) → ℕ → ℕ → Type 0
IsCheap limit low reads N before after =
    (vars : List ℕ) (pairs : List (ℕ × ℕ)) → ((v : ℕ) → N v → Contains vars v) → ((v w : ℕ) → N v → N w → Dep low reads v w → Contains pairs (v, w))
    → after ≤ before + (length vars + (limit + 2) * length pairs)

-- a variable of Reach that the base lacks
abbrev pub Lacking : Assignment → (ℕ → Assignment → List ℕ) → Map → List ℕ → ℕ → Type 0
Lacking low reads b starts v = Reach low reads starts v × (map.get b v ≡ None)

-- the variables that were in progress: all that the table has, each reached, and none in the base
pub record IsListed (low : Assignment) (reads : ℕ → Assignment → List ℕ) (b o : Map) (starts run : List ℕ) : Type 0 where
  pub stored : (v : ℕ) → IsSome (map.get o v) → Contains run v
  pub lacking : (v : ℕ) → Contains run v → Lacking low reads b starts v

-- v's right side is its least set at each assignment that agrees with the least solution on some variables, each of which has P
pub record IsSupported (low : Assignment) (right : ℕ → Assignment → Set) (P : ℕ → Type 0) (v : ℕ) : Type 0 where
  pub rests : List ℕ
  pub there : (w : ℕ) → Contains rests w → P w
  pub again : (q : Assignment) → Agree rests low q → right v q ≡ low v

-- each variable of the table o rests on variables that b or o has
pub record AreSupported (low : Assignment) (right : ℕ → Assignment → Set) (b o : Map) : Type 0 where
  pub at : (v : ℕ) → IsSome (map.get o v) → IsSupported low right (λ w. HasSet (b, o) w) v
