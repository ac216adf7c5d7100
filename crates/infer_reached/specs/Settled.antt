-- When a variable's set needs no further look.
use Rattle.std.specs.Prelude.{◌≡◌, ℕ, List, Some, ◌⊎◌}
use Rattle.std.specs.List.{Contains}
use Rattle.infer_sets.specs.Sets.{Set}
use Rattle.infer_equations.specs.Assignment.{Assignment, Map, Agree}
use Rattle.infer_reached.specs.Tables.{found, assigned}

-- the right side is s at each assignment that agrees with the tables on some variables, all of which the tables have
pub record Settled (right : Assignment → Set) (t : Map × Map) (s : Set) : Type 0 where
  pub read : List ℕ
  pub there : (w : ℕ) → Contains read w → (x : Set) × (found t w ≡ Some x)
  pub again : (q : Assignment) → Agree read (assigned t) q → right q ≡ s

abbrev pub IsSettled : (ℕ → Assignment → Set) → Assignment → Map × Map → ℕ → Set → Type 0
IsSettled right low t v s = (s ≡ low v) ⊎ Settled (right v) t s
