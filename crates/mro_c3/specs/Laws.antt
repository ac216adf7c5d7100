-- What holds of each class order: it is the only one, and agrees with the order of each class that stands in it.
use Rattle.std.specs.Prelude.{◌≡◌, ◌↔◌, ◌≤◌, ℕ, List, ◌∷◌, Contains}
use Rattle.mro_c3.specs.Merge.{occurrences}
use Rattle.mro_c3.specs.Order.{bases, IsOrder, Reaches}
use Rattle.mro_c3.specs.Subsequence.{IsSubsequence}

pub record IsLinear (rows : List (List ℕ)) (k : ℕ) (order : List ℕ) : Type 0 where
  -- the class has no other order
  pub only : (other : List ℕ) → IsOrder rows k other → other ≡ order
  -- it holds the class, its ancestors and nothing else
  pub members : (n : ℕ) → Contains order n ↔ Reaches rows k n
  -- it holds each of them once
  pub once : (n : ℕ) → occurrences order n ≤ 1
  -- each class stands before its bases, and these stand in the order of its row
  pub precedence : (n : ℕ) → Contains order n → IsSubsequence (n ∷ bases rows n) order
  -- no base stands twice in the class's row: a class with a repeated base has no order
  pub distinct : (n : ℕ) → occurrences (bases rows k) n ≤ 1
  -- it keeps the order of each class that it holds
  pub monotone : (n : ℕ) (above : List ℕ) → Contains order n → IsOrder rows n above → IsSubsequence above order
