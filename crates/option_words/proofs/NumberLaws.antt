-- Numbers that are counted up to a bound.
use Rattle.std.proofs.Common.{◌≡◌, ℕ, ◌+◌, ◌-◌, ◌*◌, ◌<◌, ◌≤◌, List, [], ◌∷◌, take, get_or, length, min, arith, ap, sym, ◌∙◌, ◌&&◌}
use Rattle.std.proofs.lemmas.Bool.Decides.{nat_tests}
use Rattle.std.specs.Prelude.{nat_le}
use Rattle.std.proofs.lemmas.List.Sums.{fold_more}
use Rattle.option_words.specs.Values.{number_of}

bounded_step : (n d bound : ℕ) → min (10 * min n bound + d) bound ≡ min (10 * n + d) bound
bounded_step n d bound = omega arith

-- one more digit
pub number_more : (digits : List ℕ) (i number : ℕ) → i < length digits → number ≡ min (number_of (take i digits)) 10000000 → min (10 * number + (get_or digits i 0 - 48)) 10000000 ≡ min (number_of (take (i + 1) digits)) 10000000
number_more digits i number below is =
    ap (λ n. min (10 * n + (get_or digits i 0 - 48)) 10000000) is
    ∙ bounded_step (number_of (take i digits)) (get_or digits i 0 - 48) 10000000
    ∙ ap (λ n. min n 10000000) (sym (fold_more (λ n c. 10 * n + (c - 48)) 0 digits i 0 below))

-- a test below the bound
pub bounded_between : (n low high : ℕ) → high < 10000000 → (nat_le low (min n 10000000) && nat_le (min n 10000000) high) ≡ (nat_le low n && nat_le n high)
bounded_between n low high below = grind (arith, nat_tests)

-- at most two bytes write a small number
pub short_number : (digits : List ℕ) → length digits ≤ 2 → ((k : ℕ) → get_or digits k 0 < 256) → number_of digits < 10000000
short_number [] short bytes = omega arith
short_number (a ∷ []) short bytes = omega (arith, bytes 0)
short_number (a ∷ b ∷ []) short bytes = omega (arith, bytes 0, bytes 1)
short_number (a ∷ b ∷ c ∷ cs) short bytes = absurd (omega arith)
