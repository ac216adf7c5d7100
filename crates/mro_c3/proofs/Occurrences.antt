-- How often a number stands in a list, in several lists, in their heads and in their tails.
use Rattle.std.proofs.Common.{◌≡◌, ◌≢◌, ◌==◌, ℕ, ◌+◌, ◌≤◌, ◌<◌, List, [], ◌∷◌, ◌++◌, map, drop, refl, ap, subst, sym, ◌∙◌, arith, cond, Bool, true, false, length, get_or, suc, zero, Option, Some, None, ◌⊎◌, inl, inr}
use Rattle.std.specs.List.{concat, Contains, find}
use Rattle.std.proofs.lemmas.List.Sums.{sum_by-cons}
use Rattle.mro_c3.specs.Merge.{occurrences, heads, tails, without_head, next_of}

pub occurrences-nil : (n : ℕ) → occurrences [] n ≡ 0
unfolding occurrences
occurrences-nil n = refl

pub occurrences-cons : (m : ℕ) (ms : List ℕ) (n : ℕ) → occurrences (m ∷ ms) n ≡ cond (m == n) 1 0 + occurrences ms n
unfolding occurrences
occurrences-cons m ms n = sum_by-cons (λ x. cond (x == n) 1 0) m ms

pub occurrences-append : (xs ys : List ℕ) (n : ℕ) → occurrences (xs ++ ys) n ≡ occurrences xs n + occurrences ys n
occurrences-append [] ys n = grind (arith, occurrences-nil)
occurrences-append (x ∷ xs) ys n = grind (arith, occurrences-cons, occurrences-append xs ys n)

pub occurrences-same : (m : ℕ) (ms : List ℕ) → occurrences (m ∷ ms) m ≡ suc (occurrences ms m)
occurrences-same m ms = grind (arith, occurrences-cons m ms m)

pub occurrences-other : (m : ℕ) (ms : List ℕ) (n : ℕ) → m ≢ n → occurrences (m ∷ ms) n ≡ occurrences ms n
occurrences-other m ms n differs = grind (arith, occurrences-cons m ms n)

pub same_or_other : (m n : ℕ) → (m ≡ n) ⊎ (m ≢ n)
same_or_other m n =
    elim (m == n) as (λ b. (m == n) ≡ b → (m ≡ n) ⊎ (m ≢ n)) [
      | true ↦ λ e. inl (grind (arith, e))
      | false ↦ λ e. inr (λ same. grind (arith, e, same))
    ]
    refl

pub Contains-here : {X : Type 0} (x : X) (xs : List X) → Contains (x ∷ xs) x
Contains-here x xs = (0, omega arith, refl)

pub Contains-there : {X : Type 0} (x y : X) (xs : List X) → Contains xs x → Contains (y ∷ xs) x
Contains-there x y xs there = (suc there.0, omega (arith, there.1), there.2)

Contains-at : {X : Type 0} (x y : X) (xs : List X) (k : ℕ) → k < suc (length xs) → get_or (y ∷ xs) k x ≡ x → (y ≡ x) ⊎ Contains xs x
Contains-at x y xs zero below is = inl is
Contains-at x y xs (suc k) below is = inr (k, omega (arith, below), is)

pub Contains-cases : {X : Type 0} (x y : X) (xs : List X) → Contains (y ∷ xs) x → (y ≡ x) ⊎ Contains xs x
Contains-cases x y xs there = Contains-at x y xs there.0 there.1 there.2

pub Contains-none : {X : Type 0} (x : X) → Contains [] x → ⊥
Contains-none x there = omega (arith, there.1)

-- a number stands in a list exactly if it occurs there
pub Contains-from_occurrences : (xs : List ℕ) (n : ℕ) → 1 ≤ occurrences xs n → Contains xs n
Contains-from_occurrences [] n there = absurd (omega (arith, occurrences-nil n))
Contains-from_occurrences (x ∷ xs) n there =
    elim (same_or_other x n) [
      | inl same ↦ subst (λ m. Contains (m ∷ xs) n) (sym same) (Contains-here n xs)
      | inr differs ↦ Contains-there n x xs (Contains-from_occurrences xs n (omega (arith, occurrences-other x xs n differs)))
    ]

pub occurrences-from_Contains : (xs : List ℕ) (n : ℕ) → Contains xs n → 1 ≤ occurrences xs n
occurrences-from_Contains [] n there = absurd (Contains-none n there)
occurrences-from_Contains (x ∷ xs) n there =
    elim (Contains-cases n x xs there) [
      | inl same ↦ grind (arith, occurrences-cons x xs n, same)
      | inr behind ↦ omega (arith, occurrences-cons x xs n, occurrences-from_Contains xs n behind)
    ]

-- each list's numbers are among those of all
pub occurrences-concat : (lists : List (List ℕ)) (list : List ℕ) (n : ℕ) → Contains lists list → occurrences list n ≤ occurrences (concat lists) n
occurrences-concat [] list n there = absurd (Contains-none list there)
occurrences-concat (l ∷ lists) list n there =
    elim (Contains-cases list l lists there) [
      | inl same ↦ let e : occurrences l n ≡ occurrences list n = ap (λ m. occurrences m n) same in omega (arith, e, occurrences-append l (concat lists) n)
      | inr behind ↦ omega (arith, occurrences-append l (concat lists) n, occurrences-concat lists list n behind)
    ]

pub tails-cons : (list : List ℕ) (lists : List (List ℕ)) → tails (list ∷ lists) ≡ drop 1 list ++ tails lists
unfolding tails
tails-cons list lists = refl

pub heads-nil : heads [] ≡ []
unfolding heads
heads-nil = refl

pub heads-cons_nil : (lists : List (List ℕ)) → heads ([] ∷ lists) ≡ heads lists
unfolding heads
heads-cons_nil lists = refl

pub heads-cons_cons : (n : ℕ) (ns : List ℕ) (lists : List (List ℕ)) → heads ((n ∷ ns) ∷ lists) ≡ n ∷ heads lists
unfolding heads
heads-cons_cons n ns lists = refl

-- of lists that are used up none has a number
pub occurrences-used_up : (lists : List (List ℕ)) (n : ℕ) → heads lists ≡ [] → occurrences (concat lists) n ≡ 0
occurrences-used_up [] n used_up = occurrences-nil n
occurrences-used_up ([] ∷ lists) n used_up = occurrences-used_up lists n (sym (heads-cons_nil lists) ∙ used_up)
occurrences-used_up ((m ∷ ms) ∷ lists) n used_up = let e : m ∷ heads lists ≡ [] = sym (heads-cons_cons m ms lists) ∙ used_up in cc

pub occurrences-heads : (lists : List (List ℕ)) (n : ℕ) → occurrences (heads lists) n ≤ occurrences (concat lists) n
occurrences-heads [] n = rw heads-nil (omega arith)
occurrences-heads ([] ∷ lists) n = rw heads-cons_nil (occurrences-heads lists n)
occurrences-heads ((m ∷ ms) ∷ lists) n = rw heads-cons_cons (grind (arith, occurrences-cons m (heads lists) n, occurrences-cons m (ms ++ concat lists) n, occurrences-append ms (concat lists) n, occurrences-heads lists n))

-- once a number that heads lists is taken from them, it stands in their tails alone
pub occurrences-without_head : (lists : List (List ℕ)) (n : ℕ) → occurrences (concat (map (without_head n) lists)) n ≤ occurrences (tails lists) n
occurrences-without_head [] n = rw occurrences-nil (omega arith)
occurrences-without_head ([] ∷ lists) n = rw tails-cons (occurrences-without_head lists n)
occurrences-without_head ((m ∷ ms) ∷ lists) n =
    let here : occurrences (without_head n (m ∷ ms)) n ≤ occurrences ms n = grind (arith, occurrences-cons m ms n) in
    rw tails-cons
    (rw occurrences-append (rw occurrences-append (omega (arith, here, occurrences-without_head lists n))))

-- every other number stays
pub occurrences-without_other : (lists : List (List ℕ)) (taken n : ℕ) → taken ≢ n → occurrences (concat (map (without_head taken) lists)) n ≡ occurrences (concat lists) n
occurrences-without_other [] taken n differs = refl
occurrences-without_other ([] ∷ lists) taken n differs = occurrences-without_other lists taken n differs
occurrences-without_other ((m ∷ ms) ∷ lists) taken n differs =
    let here : occurrences (without_head taken (m ∷ ms)) n ≡ occurrences (m ∷ ms) n = grind (arith, occurrences-cons m ms n) in
    occurrences-append (without_head taken (m ∷ ms)) (concat (map (without_head taken) lists)) n
    ∙ (omega (arith, here, occurrences-without_other lists taken n differs, occurrences-append (m ∷ ms) (concat lists) n))

pub find-Some : (p : ℕ → Bool) (xs : List ℕ) (n : ℕ) → find p xs ≡ Some n → (p n ≡ true) × (1 ≤ occurrences xs n)
find-Some p [] n found = let h : ◌≡◌ {A = Option ℕ} None (Some n) = found in absurd (cc)
find-Some p (x ∷ xs) n found =
    elim (p x) as (λ b. p x ≡ b → cond b (Some x) (find p xs) ≡ Some n → (p n ≡ true) × (1 ≤ occurrences (x ∷ xs) n)) [
      | true ↦ λ passes is. let same : x ≡ n = cc in (subst (λ m. p m ≡ true) same passes, grind (arith, occurrences-cons x xs n, same))
      | false ↦ λ fails is. let behind = find-Some p xs n is in (behind.0, omega (arith, behind.1, occurrences-cons x xs n))
    ]
    refl
    found

-- the next number stands in no tail, and in some list
pub next_of-in_no_tail : (lists : List (List ℕ)) (n : ℕ) → next_of lists ≡ Some n → occurrences (tails lists) n ≡ 0
unfolding next_of
next_of-in_no_tail lists n next = grind (arith, (find-Some (λ m. occurrences (tails lists) m == 0) (heads lists) n next).0)

pub next_of-in_lists : (lists : List (List ℕ)) (n : ℕ) → next_of lists ≡ Some n → 1 ≤ occurrences (concat lists) n
unfolding next_of
next_of-in_lists lists n next = omega (arith, (find-Some (λ m. occurrences (tails lists) m == 0) (heads lists) n next).1, occurrences-heads lists n)
