-- Numbers of sets by variable, and the sets that they stand for.
use Rattle.std.specs.Prelude.{◌≡◌, ℕ, ◌<◌, List, length, map, Some}
use Rattle.std.specs.Coded.{Coded, coded_ℕ}
use Rattle.std.specs.FinMap as finite
use Rattle.std.specs.Ordering.{nat_cmp}
use Rattle.infer_sets.specs.Sets.{Set, set_code}
use Rattle.infer_sets.specs.Numbers.{set_at, IsNumber}
use Rattle.infer_equations.specs.Assignment.{Map}

abbrev pub map_code : Coded Map
map_code = finite.code coded_ℕ set_code

-- a finite map from variables to numbers of sets
abbrev pub Ids : Type 0
Ids = finite.FinMap nat_cmp ℕ

abbrev pub ids_code : Coded Ids
ids_code = finite.code coded_ℕ coded_ℕ

-- each number is given
pub record AreGiven (numbers : List Set) (ids : Ids) : Type 0 where
  pub at : (v id : ℕ) → finite.get ids v ≡ Some id → id < length numbers

-- the set of each number in its place
unfoldable pub valued : List Set → Ids → Map
valued numbers ids = finite.from_entries (map (λ e. (e.0, set_at numbers e.1)) (finite.entries ids))

-- each number of a set of `from` that was copied has beside it the number of the same set in `to`
pub record AreCopied (from : List Set) (copied : Ids) (to : List Set) : Type 0 where
  pub at : (i id : ℕ) → finite.get copied i ≡ Some id → IsNumber to id (set_at from i)
