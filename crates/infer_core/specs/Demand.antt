-- What a demand of a variable adds to what a solver solved, and how many steps it takes.
use Rattle.std.specs.Prelude.{◌≡◌, ℕ, List, [], ◌∷◌, Some, None, IsSome, Result, OnOk, OnErr}
use Rattle.std.specs.FinMap as map
use Rattle.infer_sets.specs.Sets.{Set}
use Rattle.infer_equations.specs.Assignment.{Assignment, Map, overlaid}
use Rattle.infer_lazy.specs.Reach.{Lacking, IsCheap}
use Rattle.infer_core.specs.Solving.{Solving}

-- a variable that the table gained
abbrev pub Gained : Map → Map → ℕ → Type 0
Gained old new v = (map.get old v ≡ None) × IsSome (map.get new v)

-- the table drops no entry and gains only variables reached from v that neither table had; and one of the two tables has v
pub record Adds (low : Assignment) (reads : ℕ → Assignment → List ℕ) (base old new : Map) (v : ℕ) : Type 0 where
  pub keeps : (w : ℕ) (s : Set) → map.get old w ≡ Some s → map.get new w ≡ Some s
  pub reached : (w : ℕ) → Gained old new w → Lacking low reads (overlaid base old) (v ∷ []) w
  pub has : IsSome (map.get (overlaid base new) v)

-- a demand of v by a solver: the equations and the frozen sets stay; what it adds, and its steps; where memory runs out the solved sets are as before
pub record IsDemanded {E T F : Type 0} (limit : ℕ) (low : Assignment) (reads : ℕ → Assignment → List ℕ) (old new : Solving E) (v before after : ℕ) (r : Result T F) : Type 0 where
  pub equations : new.equations ≡ old.equations
  pub base : new.base ≡ old.base
  pub adds : OnOk r (Adds low reads old.base old.solved new.solved v)
  pub same : OnErr r (new.solved ≡ old.solved)
  pub cheap : OnOk r (IsCheap limit low reads (Gained old.solved new.solved) before after)
  pub cheap_err : OnErr r (IsCheap limit low reads (Lacking low reads (overlaid old.base old.solved) (v ∷ [])) before after)
  pub none_again : IsSome (map.get (overlaid old.base old.solved) v) → after ≡ before
