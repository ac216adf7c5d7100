-- The order of a class after Python's C3 rule: the class, and behind it the merge of its bases' orders and of the list
-- of its bases. Classes are numbers; the row of a class lists the numbers of its bases.
use Rattle.std.specs.Prelude.{ℕ, ◌<◌, List, [], ◌∷◌, ◌++◌, map, length, All, Contains, slice_index_or}
use Rattle.mro_c3.specs.Merge.{Merges}

-- the bases of a class, in the order of its class statement
abbrev pub bases : List (List ℕ) → ℕ → List ℕ
bases rows k = slice_index_or rows k []

-- what is merged behind a class, where each class has the order that is given: the bases' orders, and the bases
abbrev pub merged_lists : List ℕ → (ℕ → List ℕ) → List (List ℕ)
merged_lists row order_of = map order_of row ++ row ∷ []

-- each base has a smaller number than the class
abbrev pub BasesAreBelow : List (List ℕ) → Type 0
BasesAreBelow rows = (k : ℕ) → k < length rows → All (λ base. base < k) (bases rows k)

-- the order of a class, which it has only where each base has one
pub data IsOrder (rows : List (List ℕ)) : ℕ → List ℕ → Type 0 where
  linearized : {k : ℕ} {merged : List ℕ} (order_of : ℕ → List ℕ) → ((base : ℕ) → Contains (bases rows k) base → IsOrder rows base (order_of base)) → Merges (merged_lists (bases rows k) order_of) merged → IsOrder rows k (k ∷ merged)

-- the second class is the first, or is reached from it by going from class to base
pub data Reaches (rows : List (List ℕ)) : ℕ → ℕ → Type 0 where
  itself : {k : ℕ} → Reaches rows k k
  by_base : {k base above : ℕ} → Contains (bases rows k) base → Reaches rows base above → Reaches rows k above
