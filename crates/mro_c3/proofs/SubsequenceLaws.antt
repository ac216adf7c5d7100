-- Laws of subsequences.
use Rattle.std.proofs.Common.{ℕ, ◌≤◌, List, [], ◌∷◌, arith}
use Rattle.mro_c3.specs.Merge.{occurrences}
use Rattle.mro_c3.specs.Subsequence.{IsSubsequence, nothing, kept, left_out}
use Rattle.mro_c3.proofs.Occurrences.{occurrences-nil, occurrences-cons}

-- a list is a subsequence of itself
pub IsSubsequence-same : (xs : List ℕ) → IsSubsequence xs xs
IsSubsequence-same [] = nothing
IsSubsequence-same (x ∷ xs) = kept (IsSubsequence-same xs)

-- a subsequence of a subsequence is one
pub IsSubsequence-through : {xs ys zs : List ℕ} → IsSubsequence xs ys → IsSubsequence ys zs → IsSubsequence xs zs
IsSubsequence-through nothing _ = nothing
IsSubsequence-through p (left_out q) = left_out (IsSubsequence-through p q)
IsSubsequence-through (kept p) (kept q) = kept (IsSubsequence-through p q)
IsSubsequence-through (left_out p) (kept q) = left_out (IsSubsequence-through p q)

-- a subsequence has no number more often
pub occurrences-subsequence : {xs ys : List ℕ} → IsSubsequence xs ys → (n : ℕ) → occurrences xs n ≤ occurrences ys n
occurrences-subsequence nothing n = grind (arith, occurrences-nil)
occurrences-subsequence (kept {x} {xs} {ys} p) n = grind (arith, occurrences-cons x xs n, occurrences-cons x ys n, occurrences-subsequence p n)
occurrences-subsequence (left_out {y} {xs} {ys} p) n = grind (arith, occurrences-cons y ys n, occurrences-subsequence p n)
