-- Operators: what the scanner finds is one, and the longest.
use Rattle.std.proofs.Common.{◌≡◌, ℕ, zero, suc, ◌≤◌, ◌<◌, Bool, true, ◌&&◌, ◌||◌, not, [], ◌∷◌, length, take, slice_index, refl, sym, subst, arith, ◌==◌, ⊎_elim, if◌then◌else◌}
use Rattle.std.specs.Prelude.{nat_le}
use Rattle.std.specs.List.{list_all}
use Rattle.std.specs.Str.{bytes_eq}
use Rattle.std.proofs.lemmas.Bool.{and_parts, cond_both, agree_below, agree_below_at, ltb-true, eqb-true, or_cases, leb-true}
use Rattle.std.proofs.lemmas.Slice.Eq.{bytes_eq-Decides}
use Rattle.py_lexeme.specs.Characters.{Text}
use Rattle.py_lexeme.specs.Operators.{operators, is_operator}
use Rattle.py_lexeme.specs.Scan.{is_augmented, is_doubled, is_single, is_pair, is_triple, operator}
use Rattle.py_lexeme.proofs.Runs.{any_all}

-- ---- every operator is found

-- what the tests say of an operator, by its length
tested : Text → Bool
tested t =
    nat_le (length t) 3
    && ((not (length t == 1) || is_single (slice_index t 0))
    && ((not (length t == 2) || is_pair (slice_index t 0) (slice_index t 1))
    && (not (length t == 3) || is_triple (slice_index t 0) (slice_index t 1) (slice_index t 2))))

operators_tested : list_all tested operators ≡ true
unfolding operators tested
operators_tested = refl

operator_tested : (t : Text) → is_operator t ≡ true → tested t ≡ true
operator_tested t e =
    let found = any_all (bytes_eq t) tested operators e operators_tested in
    let same : t ≡ found.0 = (bytes_eq-Decides _ _).0 found.1 in
    subst (λ u. tested u ≡ true) (sym same) found.2

one_is_single : (c : ℕ) → is_operator (c ∷ []) ≡ true → is_single c ≡ true
unfolding tested
one_is_single c e = (and_parts (is_single c) _ (operator_tested (c ∷ []) e)).0

two_are_pair : (c d : ℕ) → is_operator (c ∷ d ∷ []) ≡ true → is_pair c d ≡ true
unfolding tested
two_are_pair c d e = (and_parts (is_pair c d) _ (operator_tested (c ∷ d ∷ []) e)).0

three_are_triple : (c d f : ℕ) → is_operator (c ∷ d ∷ f ∷ []) ≡ true → is_triple c d f ≡ true
unfolding tested
three_are_triple c d f e = operator_tested (c ∷ d ∷ f ∷ []) e

no_longer : (t : Text) → is_operator t ≡ true → length t ≤ 3
unfolding tested
no_longer t e = leb-true (length t) 3 (and_parts (nat_le (length t) 3) _ (operator_tested t e)).0

abbrev picked : Bool → Bool → Bool → ℕ
picked triple pair single = if triple then 3 else (if pair then 2 else (if single then 1 else 0))

least_one : (a b c : Bool) → c ≡ true → 1 ≤ picked a b c
least_one a b c e = cond_both a 3 _ (λ m. 1 ≤ m) (λ _. omega arith) (λ _. cond_both b 2 _ (λ m. 1 ≤ m) (λ _. omega arith) (λ _. rw e (omega arith)))

least_two : (a b c : Bool) → b ≡ true → 2 ≤ picked a b c
least_two a b c e = cond_both a 3 _ (λ m. 2 ≤ m) (λ _. omega arith) (λ _. rw e (omega arith))

least_three : (a b c : Bool) → a ≡ true → 3 ≤ picked a b c
least_three a b c e = rw e (omega arith)

-- no longer front is an operator
pub operator_fits : (cs : Text) (n : ℕ) → n ≤ length cs → is_operator (take n cs) ≡ true → n ≤ operator cs
operator_fits cs zero h e = omega arith
operator_fits [] (suc n) h e = absurd (omega arith)
operator_fits (c ∷ cs) (suc zero) h e = least_one _ _ _ (one_is_single c e)
operator_fits (c ∷ []) (suc (suc n)) h e = absurd (omega arith)
operator_fits (c ∷ d ∷ cs) (suc (suc zero)) h e = least_two _ _ _ (two_are_pair c d e)
operator_fits (c ∷ d ∷ []) (suc (suc (suc n))) h e = absurd (omega arith)
operator_fits (c ∷ d ∷ f ∷ cs) (suc (suc (suc zero))) h e = least_three _ _ _ (three_are_triple c d f e)
operator_fits (c ∷ d ∷ f ∷ []) (suc (suc (suc (suc n)))) h e = absurd (omega arith)
operator_fits (c ∷ d ∷ f ∷ g ∷ cs) (suc (suc (suc (suc n)))) h e =
    let short : length (c ∷ d ∷ f ∷ g ∷ take n cs) ≤ 3 = no_longer (c ∷ d ∷ f ∷ g ∷ take n cs) e in
    absurd (omega arith)

-- ---- what is found is one

by_table : (p : ℕ → Bool) (t : ℕ → Text) → agree_below (λ x. not (p x) || is_operator (t x)) (λ _. true) 128 ≡ true → (c : ℕ) → c < 128 → p c ≡ true → is_operator (t c) ≡ true
by_table p t table c h e =
    let one : (not (p c) || is_operator (t c)) ≡ true = agree_below_at (λ x. not (p x) || is_operator (t x)) (λ _. true) 128 c table h in
    subst (λ b. (not b || is_operator (t c)) ≡ true) e one

single_is : (c : ℕ) → is_single c ≡ true → is_operator (c ∷ []) ≡ true
unfolding operators
single_is c e = by_table is_single (λ x. x ∷ []) refl c (ltb-true c 128 (and_parts _ _ e).0) e

augmented_is : (c : ℕ) → is_augmented c ≡ true → is_operator (c ∷ 61 ∷ []) ≡ true
unfolding operators
augmented_is c e = by_table is_augmented (λ x. x ∷ 61 ∷ []) refl c (ltb-true c 128 (and_parts _ _ e).0) e

doubled_is : (c : ℕ) → is_doubled c ≡ true → is_operator (c ∷ c ∷ []) ≡ true
unfolding operators
doubled_is c e = by_table is_doubled (λ x. x ∷ x ∷ []) refl c (ltb-true c 128 (and_parts _ _ e).0) e

doubled_augmented_is : (c : ℕ) → is_doubled c ≡ true → is_operator (c ∷ c ∷ 61 ∷ []) ≡ true
unfolding operators
doubled_augmented_is c e = by_table is_doubled (λ x. x ∷ x ∷ 61 ∷ []) refl c (ltb-true c 128 (and_parts _ _ e).0) e

arrow_is : is_operator (45 ∷ 62 ∷ []) ≡ true
unfolding operators
arrow_is = refl

dots_are : is_operator (46 ∷ 46 ∷ 46 ∷ []) ≡ true
unfolding operators
dots_are = refl

pair_is : (c d : ℕ) → is_pair c d ≡ true → is_operator (c ∷ d ∷ []) ≡ true
pair_is c d e =
    ⊎_elim
    (λ augmented.
    let parts : ((d == 61) ≡ true) × (is_augmented c ≡ true) = and_parts _ _ augmented in
    subst (λ y. is_operator (c ∷ y ∷ []) ≡ true) (sym (eqb-true d 61 parts.0)) (augmented_is c parts.1))
    (λ more. ⊎_elim
    (λ doubled.
    let parts : (is_doubled d ≡ true) × ((c == d) ≡ true) = and_parts _ _ doubled in
    subst (λ x. is_operator (x ∷ d ∷ []) ≡ true) (sym (eqb-true c d parts.1)) (doubled_is d parts.0))
    (λ arrow.
    let parts : ((d == 62) ≡ true) × ((c == 45) ≡ true) = and_parts _ _ arrow in
    subst (λ x. is_operator (x ∷ d ∷ []) ≡ true) (sym (eqb-true c 45 parts.1)) (subst (λ y. is_operator (45 ∷ y ∷ []) ≡ true) (sym (eqb-true d 62 parts.0)) arrow_is))
    (or_cases (is_doubled d && c == d) _ more))
    (or_cases (d == 61 && is_augmented c) _ e)

triple_is : (c d f : ℕ) → is_triple c d f ≡ true → is_operator (c ∷ d ∷ f ∷ []) ≡ true
triple_is c d f e =
    ⊎_elim
    (λ augmented.
    let parts : ((f == 61) ≡ true) × ((is_doubled d && c == d) ≡ true) = and_parts _ _ augmented in
    let more : (is_doubled d ≡ true) × ((c == d) ≡ true) = and_parts _ _ parts.1 in
    subst (λ z. is_operator (c ∷ d ∷ z ∷ []) ≡ true) (sym (eqb-true f 61 parts.0))
    (subst (λ x. is_operator (x ∷ d ∷ 61 ∷ []) ≡ true) (sym (eqb-true c d more.1)) (doubled_augmented_is d more.0)))
    (λ dots.
    let parts : ((f == 46) ≡ true) × ((d == 46 && c == 46) ≡ true) = and_parts _ _ dots in
    let more : ((d == 46) ≡ true) × ((c == 46) ≡ true) = and_parts _ _ parts.1 in
    subst (λ x. is_operator (x ∷ d ∷ f ∷ []) ≡ true) (sym (eqb-true c 46 more.1))
    (subst (λ y. is_operator (46 ∷ y ∷ f ∷ []) ≡ true) (sym (eqb-true d 46 more.0))
    (subst (λ z. is_operator (46 ∷ 46 ∷ z ∷ []) ≡ true) (sym (eqb-true f 46 parts.0)) dots_are)))
    (or_cases (f == 61 && (is_doubled d && c == d)) _ e)

abbrev IsThere : Text → ℕ → Type 0
IsThere cs n = 0 < n → (n ≤ length cs) × (is_operator (take n cs) ≡ true)

single_there : (c : ℕ) (cs : Text) → IsThere (c ∷ cs) (if is_single c then 1 else 0)
single_there c cs = cond_both (is_single c) 1 0 (IsThere (c ∷ cs)) (λ e _. (omega arith, single_is c e)) (λ _ lt. absurd (omega arith))

pair_there : (c d : ℕ) (cs : Text) → IsThere (c ∷ d ∷ cs) (if is_pair c d then 2 else (if is_single c then 1 else 0))
pair_there c d cs = cond_both (is_pair c d) 2 _ (IsThere (c ∷ d ∷ cs)) (λ e _. (omega arith, pair_is c d e)) (λ _. single_there c (d ∷ cs))

-- and there is one as long as that
pub operator_found : (c : ℕ) (cs : Text) → IsThere (c ∷ cs) (operator (c ∷ cs))
operator_found c [] = single_there c []
operator_found c (d ∷ []) = pair_there c d []
operator_found c (d ∷ f ∷ cs) = cond_both (is_triple c d f) 3 _ (IsThere (c ∷ d ∷ f ∷ cs)) (λ e _. (omega arith, triple_is c d f e)) (λ _. pair_there c d (f ∷ cs))
