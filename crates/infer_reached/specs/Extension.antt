-- The variables that were read are added to the table, each once, with the empty set.
use Rattle.std.specs.Prelude.{◌≡◌, ℕ, List, [], ◌∷◌, ◌++◌, Some, None, Option}
use Rattle.std.specs.List.{All, Contains}
use Rattle.std.specs.FinMap as map
use Rattle.infer_sets.specs.Sets.{Set, none}
use Rattle.infer_equations.specs.Assignment.{Assignment, Map, Agree}
use Rattle.infer_equations.specs.Least.{least}
use Rattle.infer_reached.specs.Tables.{found, assigned}

-- a variable that no table has is added with the empty set, and reached
abbrev pub added_by : Option Set → Map → List ℕ → ℕ → Map × List ℕ
added_by None o run w = (map.insert o w none, run ++ w ∷ [])
added_by (Some s) o run w = (o, run)

-- the same for each of some variables
abbrev pub extended : Map → Map × List ℕ → List ℕ → Map × List ℕ
extended b p [] = p
extended b p (w ∷ ws) = extended b (added_by (found (b, p.0) w) p.0 p.1 w) ws

-- what one evaluation under the tables t read
pub record WasRead (right : Assignment → Set) (reads : Assignment → List ℕ) (t : Map × Map) (noted : List ℕ) (s : Set) : Type 0 where
  pub value : s ≡ right (assigned t)
  pub within : All (λ w. Contains (reads (assigned t)) w) noted
  pub local : (q : Assignment) → Agree noted (assigned t) q → right q ≡ s

-- each set is that of the least solution
pub record AllLeast (count limit : ℕ) (right : ℕ → Assignment → Set) (t : Map × Map) : Type 0 where
  pub at : (v : ℕ) (s : Set) → found t v ≡ Some s → s ≡ least count limit right v
