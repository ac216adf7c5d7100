-- What a solver is seen as, and what stays true of it.
use Rattle.std.specs.Prelude.{◌≡◌, ℕ, None, IsSome, refl}
use Rattle.std.specs.FinMap as map
use Rattle.std.specs.Coded.{Coded, code_by, coded×}
use Rattle.infer_sets.specs.Sets.{Set}
use Rattle.infer_equations.specs.Assignment.{Assignment, Map}
use Rattle.infer_equations.specs.Valued.{map_code}
use Rattle.infer_equations.specs.Least.{least}
use Rattle.infer_lazy.specs.Reach.{AreSupported}
use Rattle.infer_core.specs.Right.{IsRight}

-- the equations that are solved, the frozen sets on which the solver stands, and the sets that it solved itself
pub record Solving (E : Type 0) : Type 0 where
  pub equations : E
  pub base : Map
  pub solved : Map

abbrev pub solving_code : {E : Type 0} → Coded E → Coded (Solving E)
solving_code {E} e =
    code_by (E × (Map × Map)) (coded× e (coded× map_code map_code)) (λ s. (s.equations, (s.base, s.solved))) (λ p. record { equations = p.0; base = p.1.0; solved = p.1.1 }) (λ _. refl)

-- no variable has a set in both
pub record AreApart (m n : Map) : Type 0 where
  pub at : (v : ℕ) → IsSome (map.get n v) → map.get m v ≡ None

-- both tables are right, no variable stands in both, and each solved one rests on variables of the two
pub record IsSolving (count limit : ℕ) (right : ℕ → Assignment → Set) (base solved : Map) : Type 0 where
  pub base_right : IsRight count limit right base
  pub solved_right : IsRight count limit right solved
  pub apart : AreApart base solved
  pub rests : AreSupported (least count limit right) right base solved
