-- Demands in a row, of variables that are reached from some: what they add together, and how many steps they take together.
use Rattle.std.specs.Prelude.{◌≡◌, ℕ, List, Some, IsSome, Result, OnOk, OnErr}
use Rattle.std.specs.List.{Contains}
use Rattle.std.specs.FinMap as map
use Rattle.infer_sets.specs.Sets.{Set}
use Rattle.infer_equations.specs.Assignment.{Assignment, Map, overlaid}
use Rattle.infer_lazy.specs.Reach.{Reach, Lacking, IsCheap}
use Rattle.infer_core.specs.Solving.{Solving}
use Rattle.infer_core.specs.Demand.{Gained}

-- each of the variables is reached from the starts
pub record AreReached (low : Assignment) (reads : ℕ → Assignment → List ℕ) (starts vars : List ℕ) : Type 0 where
  pub at : (v : ℕ) → Contains vars v → Reach low reads starts v

-- the table drops no entry
pub record Keeps (old new : Map) : Type 0 where
  pub at : (v : ℕ) (s : Set) → map.get old v ≡ Some s → map.get new v ≡ Some s

-- demands in a row of variables reached from the starts, the last of which may be refused: the equations and the frozen sets stay, no solved set is dropped, and only what is reached and neither table had is added; the steps are those of what was added, and where memory ran out, those of what is reached and neither table had
pub record AreDemanded {E T F : Type 0} (limit : ℕ) (low : Assignment) (reads : ℕ → Assignment → List ℕ) (starts : List ℕ) (old new : Solving E) (before after : ℕ) (r : Result T F) : Type 0 where
  pub equations : new.equations ≡ old.equations
  pub base : new.base ≡ old.base
  pub keeps : Keeps old.solved new.solved
  pub reached : (v : ℕ) → Gained old.solved new.solved v → Lacking low reads (overlaid old.base old.solved) starts v
  pub cheap : OnOk r (IsCheap limit low reads (Gained old.solved new.solved) before after)
  pub cheap_err : OnErr r (IsCheap limit low reads (Lacking low reads (overlaid old.base old.solved) starts) before after)

-- one of the two tables has each of the variables
pub record AreSolved {E : Type 0} (vars : List ℕ) (s : Solving E) : Type 0 where
  pub at : (v : ℕ) → Contains vars v → IsSome (map.get (overlaid s.base s.solved) v)
