-- Pairs of a variable that was read and the place of its reader.
use Rattle.std.specs.Prelude.{ℕ, ◌==◌, List, [], ◌∷◌, cond}
use Rattle.std.specs.Ordering.{nat_cmp, ordering_then}
use Rattle.std.specs.declared.cmp.Ordering.{Ordering}

-- pairs in order: by what was read, and then by the reader's place
abbrev pub pair_cmp : ℕ × ℕ → ℕ × ℕ → Ordering
pair_cmp p q = ordering_then (nat_cmp p.0 q.0) (nat_cmp p.1 q.1)

-- the places of those who read v
abbrev pub readers : ℕ → List (ℕ × ℕ) → List ℕ
readers v [] = []
readers v (p ∷ ps) = cond (p.0 == v) (p.1 ∷ readers v ps) (readers v ps)
