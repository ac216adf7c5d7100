-- From one demand to many, and from one merge to many.
use Rattle.std.specs.Prelude.{◌≡◌, ℕ, ◌+◌, ◌-◌, ◌*◌, ◌≤◌, Bool, true, false, ◌||◌, List, [], ◌∷◌, length, Result, Ok, ⊤}
use Rattle.std.specs.List.{All, Contains, fold}
use Rattle.std.specs.FinMap as map
use Rattle.infer_equations.specs.Assignment.{Assignment, Map}
use Rattle.infer_lazy.specs.Reach.{Reach, IsCheap}
use Rattle.infer_core.specs.Right.{FrozenTable}
use Rattle.infer_core.specs.Solving.{Solving, AreApart}
use Rattle.infer_core.specs.Merge.{merged}
use Rattle.infer_core.specs.Demand.{Gained, IsDemanded}
use Rattle.infer_core.specs.Row.{AreReached, Keeps, AreDemanded}

-- what a list reaches is reached from every list that reaches the list; so it is from every list that holds one of its variables
pub record ReachGoesOn : Type 0 where
  pub from : (low : Assignment) (reads : ℕ → Assignment → List ℕ) (starts vars : List ℕ) (w : ℕ) → AreReached low reads starts vars → Reach low reads vars w → Reach low reads starts w
  pub of_member : (low : Assignment) (reads : ℕ → Assignment → List ℕ) (starts : List ℕ) (v w : ℕ) → Contains starts v → Reach low reads (v ∷ []) w → Reach low reads starts w

-- the costs of variables that are apart add up, and the costs of what a table gained in two parts
pub record CostsAddUp : Type 0 where
  pub apart : (limit : ℕ) (low : Assignment) (reads : ℕ → Assignment → List ℕ) (m n : ℕ → Bool) (x y z : ℕ) → ((v : ℕ) → m v ≡ true → n v ≡ false)
      → IsCheap limit low reads (λ v. m v ≡ true) x y → IsCheap limit low reads (λ v. n v ≡ true) y z → IsCheap limit low reads (λ v. (m v || n v) ≡ true) x z
  pub gained : (limit : ℕ) (low : Assignment) (reads : ℕ → Assignment → List ℕ) (a b c : Map) (x y z : ℕ) → Keeps a b → Keeps b c
      → IsCheap limit low reads (Gained a b) x y → IsCheap limit low reads (Gained b c) y z → IsCheap limit low reads (Gained a c) x z

-- demands in a row are made of no demand, of one, and of two rows behind one another, where the second asks for what the starts reach
pub record RowsCompose (E : Type 0) : Type 0 where
  pub nothing : (limit : ℕ) (low : Assignment) (reads : ℕ → Assignment → List ℕ) (starts : List ℕ) (s : Solving E) (n : ℕ) → AreDemanded {T = ⊤} {F = ⊤} limit low reads starts s s n n (Ok tt)
  pub one : (limit : ℕ) (low : Assignment) (reads : ℕ → Assignment → List ℕ) (v : ℕ) (old new : Solving E) (x y : ℕ) (r : Result ⊤ ⊤) → IsDemanded limit low reads old new v x y r → AreDemanded limit low reads (v ∷ []) old new x y r
  pub behind : (limit : ℕ) (low : Assignment) (reads : ℕ → Assignment → List ℕ) (starts vars : List ℕ) (a b c : Solving E) (x y z : ℕ) (r : Result ⊤ ⊤) → AreReached low reads starts vars
      → AreDemanded {T = ⊤} {F = ⊤} limit low reads starts a b x y (Ok tt) → AreDemanded limit low reads vars b c y z r → AreDemanded limit low reads starts a c x z r

-- the table after overlays were merged one after another
abbrev pub merged_all : FrozenTable → List Map → FrozenTable
merged_all f os = fold merged f os

-- overlays that are apart from a table and are merged into it one after another: each but the first solves again at most what the table gained
pub record FewAgain : Type 0 where
  pub most : (f : FrozenTable) (os : List Map) → All (λ o. AreApart f.sets o) os
      → (merged_all f os).again ≤ f.again + (length os - 1) * (map.len (merged_all f os).sets - map.len f.sets)
