-- A sweep evaluates each variable that was reached, and says whether anything changed.
use Rattle.std.specs.Prelude.{◌≡◌, ℕ, ◌<◌, List, ◌++◌, ◌⊎◌, Bool, true, false, slice_index}
use Rattle.infer_sets.specs.Sets.{Set}
use Rattle.infer_equations.specs.Assignment.{Assignment, Map}
use Rattle.infer_reached.specs.Tables.{assigned}
use Rattle.infer_reached.specs.InProgress.{HasSet, InProgress, weight}
use Rattle.infer_reached.specs.Settled.{Settled}

-- one look at a variable: something rose, or nothing changed and the variable is settled
pub record Looked (count limit : ℕ) (right : ℕ → Assignment → Set) (b : Map) (p : Map × List ℕ) (v : ℕ) (q : Map × List ℕ) (changed : Bool) : Type 0 where
  pub progress : InProgress count limit right (b, q.0) q.1
  pub more : List ℕ
  pub run : q.1 ≡ p.1 ++ more
  pub keeps : (w : ℕ) → HasSet (b, p.0) w → HasSet (b, q.0) w
  pub rose : ((changed ≡ true) × (weight count limit (b, p.0) < weight count limit (b, q.0))) ⊎ ((changed ≡ false) × (q ≡ p) × Settled (right v) (b, p.0) (assigned (b, p.0) v))

-- looks at the first i variables: something rose, or nothing changed and these are settled
pub record Swept (count limit : ℕ) (right : ℕ → Assignment → Set) (b : Map) (p : Map × List ℕ) (i : ℕ) (q : Map × List ℕ) (changed : Bool) : Type 0 where
  pub progress : InProgress count limit right (b, q.0) q.1
  pub more : List ℕ
  pub run : q.1 ≡ p.1 ++ more
  pub keeps : (w : ℕ) → HasSet (b, p.0) w → HasSet (b, q.0) w
  pub rose : ((changed ≡ true) × (weight count limit (b, p.0) < weight count limit (b, q.0)))
      ⊎ ((changed ≡ false) × (q ≡ p) × ((k : ℕ) → k < i → Settled (right (slice_index p.1 k)) (b, p.0) (assigned (b, p.0) (slice_index p.1 k))))
