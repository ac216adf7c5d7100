-- The least solution of equations over sets, by rounds that apply every right side at once.
use Rattle.std.specs.Prelude.{◌≡◌, ℕ, zero, suc, ◌+◌, ◌*◌, ◌<◌, nat_lt, cond}
use Rattle.infer_sets.specs.Sets.{Set, none, Below}
use Rattle.infer_equations.specs.Assignment.{Assignment, Within, AllFit}

-- round 0 gives the empty set to every variable; the next round applies every right side to the last one at once
unfoldable pub round : ℕ → (ℕ → Assignment → Set) → ℕ → Assignment
round count right zero v = none
round count right (suc i) v = cond (nat_lt v count) (right v (round count right i)) none

-- the last round: a variable rises at most limit + 1 times
unfoldable pub least : ℕ → ℕ → (ℕ → Assignment → Set) → Assignment
least count limit right = round count right (count * (limit + 2))

-- q solves the equations of the variables below the count
pub record Solves (count : ℕ) (right : ℕ → Assignment → Set) (q : Assignment) : Type 0 where
  pub at : (v : ℕ) → v < count → right v q ≡ q v

-- each right side under q lies within q: so it is of every solution
pub record IsClosed (count : ℕ) (right : ℕ → Assignment → Set) (q : Assignment) : Type 0 where
  pub at : (v : ℕ) → v < count → Below (right v q) (q v)

-- the least solution solves the equations, lies within every solution and within all that is closed, and keeps within the limit
pub record IsLeastSolution (count limit : ℕ) (right : ℕ → Assignment → Set) (low : Assignment) : Type 0 where
  pub solves : Solves count right low
  pub within_solutions : (q : Assignment) → Solves count right q → Within low q
  pub within_closed : (q : Assignment) → IsClosed count right q → Within low q
  pub fits : AllFit limit low
