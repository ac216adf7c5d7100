-- Runs of characters that pass a test, and tables of texts.
use Rattle.std.proofs.Common.{◌≡◌, ℕ, zero, suc, ◌+◌, ◌≤◌, Bool, true, false, cond, List, [], ◌∷◌, length, take, refl, arith, add_comm, add-one, ⊎_elim}
use Rattle.std.specs.List.{prefix_len, list_all, list_any}
use Rattle.std.proofs.lemmas.Bool.{and_parts, or_cases, both_ways}

run_passes_at : (p : ℕ → Bool) (c n : ℕ) (cs : List ℕ) (b : Bool) → p c ≡ b → list_all p (take n cs) ≡ true → list_all p (take (cond b (1 + n) 0) (c ∷ cs)) ≡ true
run_passes_at p c n cs true h rest = rw (add_comm 1 n, add-one, h) rest
run_passes_at p c n cs false h rest = refl

-- as many as pass, all pass
pub run_passes : (p : ℕ → Bool) (cs : List ℕ) → list_all p (take (prefix_len p cs) cs) ≡ true
run_passes p [] = refl
run_passes p (c ∷ cs) = run_passes_at p c (prefix_len p cs) cs (p c) refl (run_passes p cs)

-- where the first n pass, there are at least n that pass
pub run_longest : (p : ℕ → Bool) (cs : List ℕ) (n : ℕ) → n ≤ length cs → list_all p (take n cs) ≡ true → n ≤ prefix_len p cs
run_longest p cs zero h e = omega arith
run_longest p [] (suc n) h e = absurd (omega arith)
run_longest p (c ∷ cs) (suc n) h e =
    let parts : (p c ≡ true) × (list_all p (take n cs) ≡ true) = and_parts _ _ e in
    let rest : n ≤ prefix_len p cs = run_longest p cs n (omega arith) parts.1 in
    let first : p c ≡ true = parts.0 in
    rw first (omega arith)

-- what is in a table has what all of the table have
pub any_all : (p q : List ℕ → Bool) (ts : List (List ℕ)) → list_any p ts ≡ true → list_all q ts ≡ true → (t : List ℕ) × (p t ≡ true) × (q t ≡ true)
any_all p q [] a b = absurd (both_ways _ refl a)
any_all p q (t ∷ ts) a b =
    let parts : (q t ≡ true) × (list_all q ts ≡ true) = and_parts _ _ b in
    ⊎_elim (λ here. (t, here, parts.0)) (λ there. any_all p q ts there parts.1) (or_cases _ _ a)
