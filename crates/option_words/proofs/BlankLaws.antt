-- Blanks and line ends are ASCII, so that a text may be cut beside them.
use Rattle.std.proofs.Common.{◌≡◌, ℕ, ◌+◌, ◌-◌, ◌<◌, ◌≤◌, true, List, length, get_or, reverse, subst, arith}
use Rattle.std.proofs.lemmas.Bool.Decides.{nat_tests}
use Rattle.std.proofs.lemmas.List.{get_or-reverse}
use Rattle.std.proofs.lemmas.List.Sums.{prefix_len_passes, prefix_len-le-length, suffix_len-le-length}
use Rattle.std.proofs.lemmas.Str.{IsCharBoundary-after_ascii}
use Rattle.std.specs.List.{prefix_len, suffix_len}
use Rattle.std.specs.Str.{IsUtf8, IsCharBoundary}
use Rattle.option_words.specs.Values.{is_blank}

blank_is_ascii : (c : ℕ) → is_blank c ≡ true → c < 128
blank_is_ascii c blank = grind (arith, nat_tests)

-- behind the first blanks
pub boundary_behind_blanks : (bs : List ℕ) (n : ℕ) → IsUtf8 bs → n ≡ prefix_len is_blank bs → 0 < n → IsCharBoundary bs n
boundary_behind_blanks bs n utf8 is some =
    let at : n - 1 < prefix_len is_blank bs = omega arith in
    let within : n - 1 < length bs = omega (arith, prefix_len-le-length is_blank bs) in
    let ascii : get_or bs (n - 1) 0 < 128 = blank_is_ascii (get_or bs (n - 1) 0) (prefix_len_passes is_blank bs (n - 1) 0 at) in
    let same : n - 1 + 1 ≡ n = omega arith in
    subst (IsCharBoundary bs) same (IsCharBoundary-after_ascii bs (n - 1) utf8 within ascii)

last_is_ascii : (bs : List ℕ) (n : ℕ) → n ≡ suffix_len is_blank bs → 0 < n → get_or bs (length bs - n) 0 < 128
last_is_ascii bs n is some =
    let bound : n ≤ length bs = omega (arith, suffix_len-le-length is_blank bs) in
    let at : n - 1 < prefix_len is_blank (reverse bs) = omega arith in
    let below : n - 1 < length bs = omega arith in
    let ascii : get_or (reverse bs) (n - 1) 0 < 128 = blank_is_ascii (get_or (reverse bs) (n - 1) 0) (prefix_len_passes is_blank (reverse bs) (n - 1) 0 at) in
    let place : length bs - 1 - (n - 1) ≡ length bs - n = omega arith in
    let read : get_or (reverse bs) (n - 1) 0 ≡ get_or bs (length bs - 1 - (n - 1)) 0 = get_or-reverse bs (n - 1) 0 below in
    let there : get_or bs (length bs - 1 - (n - 1)) 0 < 128 = subst (λ c. c < 128) read ascii in
    subst (λ k. get_or bs k 0 < 128) place there

-- before the last blanks
pub boundary_before_blanks : (bs : List ℕ) (n : ℕ) → n ≡ suffix_len is_blank bs → IsCharBoundary bs (length bs - n)
boundary_before_blanks bs n is = (omega arith, λ below high. absurd (omega (arith, last_is_ascii bs n is (omega arith))))
