-- Tables that are right for equations: each of their entries is the least solution's.
use Rattle.std.specs.Prelude.{◌≡◌, ℕ, Some, refl}
use Rattle.std.specs.FinMap as map
use Rattle.std.specs.Coded.{Coded, code_by, coded×, coded_ℕ}
use base.Stored.{Coded-set}
use Rattle.infer_sets.specs.Sets.{Set, set_code}
use Rattle.infer_equations.specs.Assignment.{Assignment, Map}
use Rattle.infer_equations.specs.Valued.{map_code}
use Rattle.infer_equations.specs.Least.{least}

-- solved sets by variable, and how many variables were solved again when they were merged
pub record FrozenTable : Type 0 where
  pub sets : Map
  pub again : ℕ

abbrev pub frozen_code : Coded FrozenTable
frozen_code = code_by (Map × ℕ) (coded× map_code coded_ℕ) (λ f. (f.sets, f.again)) (λ p. record { sets = p.0; again = p.1 }) (λ _. refl)

-- each entry is that of the least solution
pub record IsRight (count limit : ℕ) (right : ℕ → Assignment → Set) (m : Map) : Type 0 where
  pub at : (v : ℕ) (s : Set) → map.get m v ≡ Some s → s ≡ least count limit right v

pub IsRight-prop : (count limit : ℕ) (right : ℕ → Assignment → Set) (m : Map) → IsProp (IsRight count limit right m)
IsRight-prop count limit right m p q = λ i. record { at = λ v s e. Coded-set set_code s (least count limit right v) (p.at v s e) (q.at v s e) i }
