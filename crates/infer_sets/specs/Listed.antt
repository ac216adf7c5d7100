-- The values of a set one after another: in ascending order, each once.
use Rattle.std.specs.Prelude.{◌≡◌, ℕ, List, length, slice_get, Option, Some, None}
use Rattle.std.specs.List.Sorted.{IsStrictlySortedBy}
use Rattle.infer_sets.specs.declared.abs_val.AbsVal.{AbsVal}
use Rattle.infer_sets.specs.Values.{value_cmp}
use Rattle.infer_sets.specs.Sets.{Set}
use Rattle.infer_sets.specs.Stored.{values_of}

-- the values of the set s in ascending order
pub record IsListed (s : Set) (xs : List AbsVal) : Type 0 where
  pub ascending : IsStrictlySortedBy value_cmp xs
  pub is : s ≡ Some (values_of xs)

-- the set s has so many values
pub record HasCount (s : Set) (n : ℕ) : Type 0 where
  pub values : List AbsVal
  pub listed : IsListed s values
  pub is : n ≡ length values

-- what stands at a place of the values of s in ascending order: nothing behind the last, and nothing where s is Uninferable
pub record IsValueAt (s : Set) (place : ℕ) (found : Option AbsVal) : Type 0 where
  pub listed : (xs : List AbsVal) → IsListed s xs → found ≡ slice_get xs place
  pub unknown : s ≡ None → found ≡ None
