-- Places that wait, in ascending order, each once.
use Rattle.std.specs.Prelude.{ℕ, zero, suc, ◌+◌, List, [], ◌∷◌}
use Rattle.std.specs.Ordering.{nat_cmp}
use Rattle.std.specs.BTreeSet.{insert_key}

-- the places with each of some more
abbrev pub with_places : List ℕ → List ℕ → List ℕ
with_places ps [] = ps
with_places ps (q ∷ qs) = with_places (insert_key nat_cmp ps q) qs

-- n places from k on
abbrev pub places : ℕ → ℕ → List ℕ
places k zero = []
places k (suc n) = k ∷ places (k + 1) n
