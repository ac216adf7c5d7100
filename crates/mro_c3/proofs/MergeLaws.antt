-- Laws of the merge: there is at most one, it has the numbers of the lists, each once, and keeps the order of each list.
use Rattle.std.proofs.Common.{◌≡◌, ◌==◌, ℕ, ◌≤◌, List, [], ◌∷◌, map, refl, subst, sym, ◌∙◌, arith, cond, true, false, Some, inl, inr}
use Rattle.std.specs.List.{concat, Contains}
use Rattle.mro_c3.specs.Merge.{occurrences, heads, without_head, next_of, Merges}
use Rattle.mro_c3.specs.Subsequence.{IsSubsequence, nothing, kept, left_out}
use Rattle.mro_c3.proofs.Occurrences.{occurrences-nil, occurrences-cons, occurrences-same, occurrences-other, occurrences-used_up, occurrences-without_head, occurrences-without_other, next_of-in_no_tail, next_of-in_lists, same_or_other, heads-cons_nil, heads-cons_cons, Contains-cases, Contains-here, Contains-there, Contains-none}

-- where the lists are used up there is no next number
pub next_of-used_up : (lists : List (List ℕ)) (n : ℕ) → heads lists ≡ [] → next_of lists ≡ Some n → ⊥
next_of-used_up lists n used_up next = omega (arith, occurrences-used_up lists n used_up, next_of-in_lists lists n next)

-- there is at most one merge
pub Merges-unique : (lists : List (List ℕ)) (ns ms : List ℕ) → Merges lists ns → Merges lists ms → ns ≡ ms
unfolding Merges
Merges-unique lists [] [] one other = refl
Merges-unique lists [] (m ∷ ms) one other = absurd (next_of-used_up lists m one other.0)
Merges-unique lists (n ∷ ns) [] one other = absurd (next_of-used_up lists n other one.0)
Merges-unique lists (n ∷ ns) (m ∷ ms) one other =
    let is_n : next_of lists ≡ Some n = one.0 in
    let is_m : next_of lists ≡ Some m = other.0 in
    let same : m ≡ n = cc in
    let rest : Merges (map (without_head n) lists) ms = subst (λ x. Merges (map (without_head x) lists) ms) same other.1 in
    let behind : ns ≡ ms = Merges-unique (map (without_head n) lists) ns ms one.1 rest in
    cc

-- the merge has each number of the lists
pub occurrences-merged_from : (lists : List (List ℕ)) (merged : List ℕ) (n : ℕ) → Merges lists merged → 1 ≤ occurrences (concat lists) n → 1 ≤ occurrences merged n
unfolding Merges
occurrences-merged_from lists [] n merges there = absurd (omega (arith, occurrences-used_up lists n merges))
occurrences-merged_from lists (m ∷ ms) n merges there =
    elim (same_or_other m n) [
      | inl same ↦ grind (arith, occurrences-cons m ms n, same)
      | inr differs ↦ omega (arith, occurrences-cons m ms n, occurrences-merged_from (map (without_head m) lists) ms n merges.1 (omega (arith, there, occurrences-without_other lists m n differs)))
    ]

-- and no other
pub occurrences-merged_to : (lists : List (List ℕ)) (merged : List ℕ) (n : ℕ) → Merges lists merged → 1 ≤ occurrences merged n → 1 ≤ occurrences (concat lists) n
unfolding Merges
occurrences-merged_to lists [] n merges there = absurd (omega (arith, occurrences-nil n))
occurrences-merged_to lists (m ∷ ms) n merges there =
    elim (same_or_other m n) [
      | inl same ↦ subst (λ x. 1 ≤ occurrences (concat lists) x) same (next_of-in_lists lists m merges.0)
      | inr differs ↦ omega (arith, occurrences-without_other lists m n differs, occurrences-merged_to (map (without_head m) lists) ms n merges.1 (omega (arith, there, occurrences-other m ms n differs)))
    ]

-- a number that is taken stands no further on
taken_once : (lists : List (List ℕ)) (n : ℕ) (ns : List ℕ) → next_of lists ≡ Some n → Merges (map (without_head n) lists) ns → occurrences (n ∷ ns) n ≤ 1
taken_once lists n ns next merges =
    elim (same_or_other (occurrences ns n) 0) [
      | inl none ↦ omega (arith, occurrences-same n ns, none)
      | inr some ↦ absurd (omega (arith, some, next_of-in_no_tail lists n next, occurrences-without_head lists n, occurrences-merged_to (map (without_head n) lists) ns n merges (omega (arith, some))))
    ]

-- and each once
pub occurrences-merged_once : (lists : List (List ℕ)) (merged : List ℕ) (n : ℕ) → Merges lists merged → occurrences merged n ≤ 1
unfolding Merges
occurrences-merged_once lists [] n merges = omega (arith, occurrences-nil n)
occurrences-merged_once lists (m ∷ ms) n merges =
    elim (same_or_other m n) [
      | inl same ↦ subst (λ x. occurrences (m ∷ ms) x ≤ 1) same (taken_once lists m ms merges.0 merges.1)
      | inr differs ↦ omega (arith, occurrences-other m ms n differs, occurrences-merged_once (map (without_head m) lists) ms n merges.1)
    ]

-- a list of those that are merged is a list of those that are left, without its head where that is taken
Contains-map : (f : List ℕ → List ℕ) (lists : List (List ℕ)) (list : List ℕ) → Contains lists list → Contains (map f lists) (f list)
Contains-map f [] list there = absurd (Contains-none list there)
Contains-map f (l ∷ lists) list there =
    elim (Contains-cases list l lists there) [
      | inl same ↦ subst (λ x. Contains (f x ∷ map f lists) (f list)) (sym same) (Contains-here (f list) (map f lists))
      | inr behind ↦ Contains-there (f list) (f l) (map f lists) (Contains-map f lists list behind)
    ]

used_up-nil : (lists : List (List ℕ)) (list : List ℕ) → heads lists ≡ [] → Contains lists list → list ≡ []
used_up-nil [] list used_up there = absurd (Contains-none list there)
used_up-nil ([] ∷ lists) list used_up there =
    elim (Contains-cases list [] lists there) [
      | inl same ↦ sym same
      | inr behind ↦ used_up-nil lists list (sym (heads-cons_nil lists) ∙ used_up) behind
    ]
used_up-nil ((m ∷ ms) ∷ lists) list used_up there =
    let e : m ∷ heads lists ≡ [] = sym (heads-cons_cons m ms lists) ∙ used_up in absurd (cc)

IsSubsequence-put_back : (n : ℕ) (list ns : List ℕ) → IsSubsequence (without_head n list) ns → IsSubsequence list (n ∷ ns)
IsSubsequence-put_back n [] ns within = nothing
IsSubsequence-put_back n (m ∷ ms) ns within =
    elim (m == n) as (λ b. (m == n) ≡ b → IsSubsequence (cond b ms (m ∷ ms)) ns → IsSubsequence (m ∷ ms) (n ∷ ns)) [
      | true ↦ λ is below. let same : n ≡ m = grind (arith, is) in subst (λ x. IsSubsequence (m ∷ ms) (x ∷ ns)) (sym same) (kept below)
      | false ↦ λ is below. left_out below
    ]
    refl
    within

-- the merge keeps the order of each list
pub IsSubsequence-merged : (lists : List (List ℕ)) (merged list : List ℕ) → Merges lists merged → Contains lists list → IsSubsequence list merged
unfolding Merges
IsSubsequence-merged lists [] list merges there = subst (λ x. IsSubsequence x []) (sym (used_up-nil lists list merges there)) nothing
IsSubsequence-merged lists (n ∷ ns) list merges there =
    IsSubsequence-put_back n list ns
    (IsSubsequence-merged (map (without_head n) lists) ns (without_head n list) merges.1 (Contains-map (without_head n) lists list there))
