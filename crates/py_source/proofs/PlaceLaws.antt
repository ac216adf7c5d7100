-- Places add up, by bytes and by characters.
use Rattle.std.proofs.Common.{◌≡◌, ℕ, zero, suc, ◌+◌, List, [], ◌∷◌, drop, refl, sym, ap, ◌∙◌, arith, zero-add, ◌-◌, ◌<◌, get_or, length}
use Rattle.std.proofs.Math.Nat.{suc-add}
use Rattle.lint_values.specs.declared.place.Pos.{Pos}
use Rattle.py_source.specs.Places.{pos_from, next_pos, ends_line}

pos_nil : (at : Pos) (n : ℕ) → pos_from at n [] ≡ at
pos_nil at zero = refl
pos_nil at (suc n) = refl

-- the place m and then n bytes further
pub pos_from-add : (at : Pos) (m n : ℕ) (text : List ℕ) → pos_from at (m + n) text ≡ pos_from (pos_from at m text) n (drop m text)
pos_from-add at zero n text = ap (λ k. pos_from at k text) (zero-add n)
pos_from-add at (suc m) n [] = pos_nil at (suc m + n) ∙ sym (pos_nil at n)
pos_from-add at (suc m) n (b ∷ text) = ap (λ k. pos_from at k (b ∷ text)) (suc-add m n) ∙ pos_from-add (next_pos at (ends_line b text) 1) m n text

pos_more : (at : Pos) (k b : ℕ) (rest : List ℕ) → 0 < k → pos_from at k (b ∷ rest) ≡ pos_from (next_pos at (ends_line b rest) 1) (k - 1) rest
pos_more at zero b rest h = absurd (omega arith)
pos_more at (suc k) b rest h = let e : suc k - 1 ≡ k = omega arith in rw e refl

-- one byte further
pub pos_step : (at : Pos) (k : ℕ) (rest : List ℕ) → 0 < k → 0 < length rest → pos_from (next_pos at (ends_line (get_or rest 0 0) (drop 1 rest)) 1) (k - 1) (drop 1 rest) ≡ pos_from at k rest
pos_step at k [] h some = absurd (omega arith)
pos_step at k (b ∷ rest) h some = sym (pos_more at k b rest h)
