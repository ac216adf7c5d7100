-- The words of a text, one by one.
use Rattle.std.proofs.Common.{◌≡◌, ℕ, suc, ◌+◌, ◌-◌, ◌*◌, ◌<◌, ◌≤◌, Bool, true, false, not, cond, List, [], ◌∷◌, ◌++◌, length, take, drop, refl, sym, ap, ◌∙◌, append_assoc, arith}
use Rattle.std.specs.List.{slice_split, prefix_len, onto_first}
use Rattle.scope_rules.specs.Nodes.{Name}
use Rattle.unused_names.specs.Literals.{is_name_byte, within, words_of}

abbrev cut : (ℕ → Bool) → List ℕ → List (List ℕ)
cut q xs = slice_split (λ b. not (q b)) xs

cut-more : (q : ℕ → Bool) (xs : List ℕ) → prefix_len q xs < length xs → cut q xs ≡ take (prefix_len q xs) xs ∷ cut q (drop 1 (drop (prefix_len q xs) xs))
cut-more q [] lt = absurd (omega arith)
cut-more q (x ∷ xs) lt = by_test (q x) lt (cut-more q xs)
  where
    by_test : (b : Bool) → cond b (1 + prefix_len q xs) 0 < length (x ∷ xs) → (prefix_len q xs < length xs → cut q xs ≡ take (prefix_len q xs) xs ∷ cut q (drop 1 (drop (prefix_len q xs) xs)))
        → cond (not b) ([] ∷ cut q xs) (onto_first x (cut q xs)) ≡ take (cond b (1 + prefix_len q xs) 0) (x ∷ xs) ∷ cut q (drop 1 (drop (cond b (1 + prefix_len q xs) 0) (x ∷ xs)))
    by_test true lt ih = let e : 1 + prefix_len q xs ≡ suc (prefix_len q xs) = omega arith in rw (e, ih (omega arith)) refl
    by_test false lt ih = refl

cut-last : (q : ℕ → Bool) (xs : List ℕ) → length xs ≤ prefix_len q xs → cut q xs ≡ xs ∷ []
cut-last q [] le = refl
cut-last q (x ∷ xs) le = by_test (q x) le (cut-last q xs)
  where
    by_test : (b : Bool) → length (x ∷ xs) ≤ cond b (1 + prefix_len q xs) 0 → (length xs ≤ prefix_len q xs → cut q xs ≡ xs ∷ []) → cond (not b) ([] ∷ cut q xs) (onto_first x (cut q xs)) ≡ (x ∷ xs) ∷ []
    by_test true le ih = rw (ih (omega arith)) refl
    by_test false le ih = absurd (omega arith)

-- the first word, and those behind the character after it
pub words_more : (xs : List ℕ) (n : ℕ) → n ≡ prefix_len is_name_byte xs → n < length xs → words_of xs ≡ take n xs ∷ words_of (drop 1 (drop n xs))
unfolding words_of
words_more xs n e lt = rw e (cut-more is_name_byte xs (rw e at lt))

-- the only word
pub words_last : (xs : List ℕ) → length xs ≤ prefix_len is_name_byte xs → words_of xs ≡ xs ∷ []
unfolding words_of
words_last xs le = cut-last is_name_byte xs le

-- a literal that is too short for its quotes has nothing within them
pub within_few : (k : ℕ) (bs : List ℕ) → length bs < 2 * k → [] ≡ within k bs
unfolding within
within_few k bs few = let none : length bs - 2 * k ≡ 0 = omega arith in sym (ap (λ (n : ℕ). take n (drop k bs)) none)

-- one more word of a text
pub words_on : (ms whole : List Name) (xs word after rest : List ℕ) (n : ℕ) → n ≡ prefix_len is_name_byte xs → n < length xs → word ≡ take n xs → after ≡ drop n xs → rest ≡ drop 1 after → ms ++ words_of xs ≡ whole
    → (ms ++ word ∷ []) ++ words_of rest ≡ whole
words_on ms whole xs word after rest n e lt first behind last so_far =
    append_assoc ms (word ∷ []) (words_of rest)
    ∙ ap (λ (w : List ℕ). ms ++ w ∷ words_of rest) first
    ∙ ap (λ (r : List ℕ). ms ++ take n xs ∷ words_of r) (last ∙ ap (drop 1) behind)
    ∙ ap (λ ws. ms ++ ws) (sym (words_more xs n e lt))
    ∙ so_far

-- the last one
pub words_end : (ms whole : List Name) (xs : List ℕ) → length xs ≤ prefix_len is_name_byte xs → ms ++ words_of xs ≡ whole → ms ++ xs ∷ [] ≡ whole
words_end ms whole xs le so_far = ap (λ ws. ms ++ ws) (sym (words_last xs le)) ∙ so_far
