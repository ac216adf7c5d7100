-- Subsequences: what is left of a list when some of its numbers are left out.
use Rattle.std.specs.Prelude.{ℕ, List, [], ◌∷◌}

pub data IsSubsequence : List ℕ → List ℕ → Type 0 where
  nothing : {ys : List ℕ} → IsSubsequence [] ys
  kept : {x : ℕ} {xs ys : List ℕ} → IsSubsequence xs ys → IsSubsequence (x ∷ xs) (x ∷ ys)
  left_out : {y : ℕ} {xs ys : List ℕ} → IsSubsequence xs ys → IsSubsequence xs (y ∷ ys)
