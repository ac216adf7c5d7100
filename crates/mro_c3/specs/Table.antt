-- What is kept while classes are put in order: which are reached, the orders that are made, and what stands in tails.
use Rattle.std.specs.Prelude.{◌≡◌, ◌==◌, ◌+◌, ◌<◌, ◌≤◌, ℕ, Bool, true, false, List, [], ◌++◌, ◌⊎◌, length, find, Option, All, Contains, slice_index, slice_index_or}
use Rattle.mro_c3.specs.Merge.{occurrences, heads, tails, Merges}
use Rattle.mro_c3.specs.Order.{bases, IsOrder, Reaches}

-- the later table counts each number of the list once more than the earlier one
pub record CountsMore (list earlier later : List ℕ) : Type 0 where
  pub at : (n : ℕ) → slice_index later n ≡ slice_index earlier n + occurrences list n

-- each number of the list was counted as often at least as it stands there
pub record IsCounted (list counts : List ℕ) : Type 0 where
  pub at : (n : ℕ) → occurrences list n ≤ slice_index counts n

-- the later table counts the later list where the earlier one counts the earlier list
pub record Recounts (before after earlier later : List ℕ) : Type 0 where
  pub at : (n : ℕ) → slice_index later n + occurrences before n ≡ slice_index earlier n + occurrences after n

-- the table tells how often each number stands in the tails of the lists
pub record CountsTails (lists : List (List ℕ)) (in_tails : List ℕ) : Type 0 where
  pub at : (n : ℕ) → slice_index in_tails n ≡ occurrences (tails lists) n

-- each number of the lists is below the bound
abbrev pub AllNumbersBelow : ℕ → List (List ℕ) → Type 0
AllNumbersBelow bound lists = All (λ list. All (λ n. n < bound) list) lists

-- the first head of some of the lists that stands in no tail of all of them
unfoldable pub next_among : List (List ℕ) → List (List ℕ) → Option ℕ
next_among all lists = find (λ n. occurrences (tails all) n == 0) (heads lists)

-- some numbers were taken from the lists and put behind others: a merge of what is left goes on to one of all, and a
-- merge of all began with them
pub record IsMergedSoFar (lists : List (List ℕ)) (before : List ℕ) (left : List (List ℕ)) (now : List ℕ) : Type 0 where
  pub merged : List ℕ
  pub behind : now ≡ before ++ merged
  pub goes_on : (rest : List ℕ) → Merges left rest → Merges lists (merged ++ rest)
  pub began : (all : List ℕ) → Merges lists all → (rest : List ℕ) × (all ≡ merged ++ rest) × Merges left rest

-- a merge of the lists was put behind what was there before
pub record IsMergedBehind (lists : List (List ℕ)) (before now : List ℕ) : Type 0 where
  pub merged : List ℕ
  pub behind : now ≡ before ++ merged
  pub merges : Merges lists merged

-- whether a class is marked
abbrev pub IsMarked : List Bool → ℕ → Type 0
IsMarked marks n = slice_index_or marks n false ≡ true

-- the later marks are the earlier ones, and one for each class of the list
pub record Marks (classes : List ℕ) (earlier later : List Bool) : Type 0 where
  pub kept : (n : ℕ) → IsMarked earlier n → IsMarked later n
  pub added : (n : ℕ) → Contains classes n → IsMarked later n
  pub only : (n : ℕ) → IsMarked later n → IsMarked earlier n ⊎ Contains classes n

-- the marked classes are reached, and of those that are not below the bound the bases are marked
pub record MarksFrom (rows : List (List ℕ)) (k bound : ℕ) (marks : List Bool) : Type 0 where
  pub size : length marks ≡ k + 1
  pub start : IsMarked marks k
  pub reached : (n : ℕ) → IsMarked marks n → Reaches rows k n
  pub closed : (n base : ℕ) → bound ≤ n → IsMarked marks n → Contains (bases rows n) base → IsMarked marks base

-- the classes that are marked are those that a class reaches, and with each its bases
pub record MarksReached (rows : List (List ℕ)) (k : ℕ) (marks : List Bool) : Type 0 where
  pub size : length marks ≡ k + 1
  pub start : IsMarked marks k
  pub reached : (n : ℕ) → IsMarked marks n → Reaches rows k n
  pub closed : (n base : ℕ) → IsMarked marks n → Contains (bases rows n) base → IsMarked marks base

-- the order that a table has for a class
abbrev pub order_at : List (List ℕ) → ℕ → List ℕ
order_at orders n = slice_index_or orders n []

-- the table has the order of each base of a class, of numbers below the class
pub record HasBaseOrders (rows : List (List ℕ)) (class : ℕ) (orders : List (List ℕ)) : Type 0 where
  pub ordered : (base : ℕ) → Contains (bases rows class) base → IsOrder rows base (order_at orders base)
  pub below : AllNumbersBelow class orders

-- the table has the order of each class that is marked, up to its length
pub record HasOrders (rows : List (List ℕ)) (marks : List Bool) (orders : List (List ℕ)) : Type 0 where
  pub ordered : (n : ℕ) → n < length orders → IsMarked marks n → IsOrder rows n (order_at orders n)
  pub below : AllNumbersBelow (length orders) orders
