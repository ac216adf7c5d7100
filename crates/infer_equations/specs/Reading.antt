-- What a computation over a view takes from it.
use Rattle.std.specs.Prelude.{◌≡◌, ℕ, List, ◌++◌}
use Rattle.std.specs.List.{All, Contains}
use Rattle.infer_equations.specs.Assignment.{Assignment, assignment_of, Agree}
use Rattle.infer_sets.specs.Sets.{Set}
use Rattle.infer_sets.specs.Numbers.{IsNumber}
use Rattle.infer_equations.specs.Seen.{Seen, sets, Stays}

-- x is f of the view's assignment; the variables noted on the way are some of r; and f has this value at each assignment that agrees on them
pub record Reads {X : Type 0} (f : Assignment → X) (r : Assignment → List ℕ) (before after : Seen) (x : X) : Type 0 where
  pub stays : Stays before after
  pub more : List ℕ
  pub noted : after.noted ≡ before.noted ++ more
  pub within : All (λ w. Contains (r (assignment_of (sets before))) w) more
  pub value : x ≡ f (assignment_of (sets before))
  pub local : (b : Assignment) → Agree more (assignment_of (sets before)) b → f b ≡ x

-- the number is that of f of the view's assignment
pub record Gives (f : Assignment → Set) (r : Assignment → List ℕ) (before after : Seen) (id : ℕ) : Type 0 where
  pub set : Set
  pub numbered : IsNumber after.numbers id set
  pub reads : Reads f r before after set
