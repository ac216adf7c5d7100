-- Numbers while their list grows.
use Rattle.std.proofs.Common.{◌≡◌, ℕ, zero, suc, ◌+◌, ◌<◌, ◌≤◌, Bool, true, false, cond, not, ◌&&◌, ◌||◌, ◌⊎◌, inl, inr, List, [], ◌∷◌, ◌++◌, length, get_or, take, refl, sym, ◌∙◌, ap, subst, arith, length-append, length-take, append_assoc}
use Rattle.std.specs.Prelude.{Option, Some, None, nat_lt}
use Rattle.std.specs.List.{position, position_or_len}
use Rattle.std.proofs.lemmas.List.Sums.{prefix_len-le-length, prefix_len_passes, prefix_len_stops}
use Rattle.std.proofs.lemmas.List.Folds.{list_any_none, list_any_at}
use Rattle.std.proofs.lemmas.Bool.Decides.{nat_tests}
use Rattle.std.proofs.lemmas.List.{get_or_append_left, append-nil, get_or-take, get_or_default}
use Rattle.std.proofs.Math.Seq.{take-length, take-append_seam}
use Rattle.infer_sets.specs.Sets.{Set, none, is_below}
use Rattle.infer_sets.proofs.SetOrder.{below-refl, below-antisym}
use Rattle.infer_sets.specs.Laws.{AreKept}
use Rattle.infer_sets.specs.Numbers.{set_at, IsNumber, AreApart, Grew, is_same, has_number, with_set}

pub is_same-refl : (s : Set) → is_same s s ≡ true
is_same-refl s = let h = (below-refl s).is in ap (λ b. b && is_below s s) h ∙ h

not_flip : (b : Bool) → not b ≡ true → b ≡ false
not_flip true e = sym e
not_flip false e = refl

not_true : (b : Bool) → not b ≡ false → b ≡ true
not_true true e = refl
not_true false e = sym e

unwrap_some : (n id : ℕ) → ◌≡◌ {A = Option ℕ} (Some n) (Some id) → n ≡ id
unwrap_some n id e = ap (λ (o : Option ℕ). or_zero o) e
  where
    or_zero : Option ℕ → ℕ
    or_zero (Some k) = k
    or_zero None = 0

both_true : (a b : Bool) → (a && b) ≡ true → (a ≡ true) × (b ≡ true)
both_true true b e = (refl, e)
both_true false b e = absurd (let h = e in cc)

pub is_same-is : (s t : Set) → is_same s t ≡ true → s ≡ t
is_same-is s t e = let h = both_true (is_below s t) (is_below t s) e in below-antisym s t (record { is = h.0 }) (record { is = h.1 })

-- a set keeps its number
pub number-kept : (xs ys : List Set) (id : ℕ) → id < length xs → set_at (xs ++ ys) id ≡ set_at xs id
unfolding set_at
number-kept xs ys id h = get_or_append_left xs ys none id h

pub number-last : (xs : List Set) (s : Set) → set_at (xs ++ s ∷ []) (length xs) ≡ s
unfolding set_at
number-last [] s = refl
number-last (x ∷ xs) s = number-last xs s

pub is_number-grew : (xs ys : List Set) (id : ℕ) (s : Set) → Grew xs ys → IsNumber xs id s → IsNumber ys id s
is_number-grew xs ys id s g h = subst (λ zs. IsNumber zs id s) (sym g.is) (record {
  below = let n = length-append xs g.more in let l = h.below in omega (arith, n);
  is = number-kept xs g.more id h.below ∙ h.is;
})

pub grew-refl : (xs : List Set) → Grew xs xs
grew-refl xs = record { more = []; is = sym (append-nil xs) }

pub grew-then : (xs ys zs : List Set) → Grew xs ys → Grew ys zs → Grew xs zs
grew-then xs ys zs g h = record { more = g.more ++ h.more; is = h.is ∙ ap (λ ws. ws ++ h.more) g.is ∙ append_assoc xs g.more h.more }

pub are-kept : AreKept
are-kept = record { keeps = is_number-grew; itself = grew-refl; twice = grew-then }

-- where no set is s, none of the places has it
pub not_same : (xs : List Set) (s : Set) → has_number xs s ≡ false → (i : ℕ) → i < length xs → set_at xs i ≡ s → ⊥
unfolding set_at
not_same [] s e i l h = omega arith
not_same (x ∷ xs) s e zero l h = absurd (let t : is_same x s ≡ true = subst (λ y. is_same x y ≡ true) h (is_same-refl x) in let u = ap (λ b. b || has_number xs s) t in cc)
not_same (x ∷ xs) s e (suc i) l h = not_same xs s (or_false (is_same x s) (has_number xs s) e) i (omega arith) h
  where
    or_false : (a b : Bool) → (a || b) ≡ false → b ≡ false
    or_false true b e = absurd (let h = e in cc)
    or_false false b e = e

none_by : (xs : List Set) (s : Set) (n : ℕ) → n ≤ length xs → position_or_len (λ t. is_same t s) xs ≡ n → (b : Bool) → nat_lt n (length xs) ≡ b → cond b (Some n) None ≡ None → has_number xs s ≡ false
none_by xs s n l e true f h = absurd (let g = h in cc)
none_by xs s n l e false f h = list_any_none (λ t. is_same t s) xs (λ k d lt. not_flip (is_same (get_or xs k d) s) (prefix_len_passes (λ t. not (is_same t s)) xs k d (grind (arith, nat_tests, prefix_len-le-length (λ t. not (is_same t s)) xs))))

pub position-none : (xs : List Set) (s : Set) → position (λ t. is_same t s) xs ≡ None → has_number xs s ≡ false
position-none xs s h = none_by xs s _ (prefix_len-le-length _ xs) refl _ refl h

some_by : (xs : List Set) (s : Set) (n id : ℕ) → position_or_len (λ t. is_same t s) xs ≡ n → (b : Bool) → nat_lt n (length xs) ≡ b → cond b (Some n) None ≡ Some id → (has_number xs s ≡ true) × IsNumber xs id s
unfolding set_at
some_by xs s n id e false f h = absurd (let g = h in cc)
some_by xs s n id e true f h =
    let same : n ≡ id = unwrap_some n id h in
    let lt : n < length xs = grind (arith, nat_tests) in
    let at : is_same (get_or xs n none) s ≡ true = subst (λ k. is_same (get_or xs k none) s ≡ true) e (not_true _ (prefix_len_stops (λ t. not (is_same t s)) xs none (subst (λ k. k < length xs) (sym e) lt))) in
    (list_any_at (λ t. is_same t s) xs n none lt at, subst (λ k. IsNumber xs k s) same (record { below = lt; is = is_same-is _ _ at }))

pub position-some : (xs : List Set) (s : Set) (id : ℕ) → position (λ t. is_same t s) xs ≡ Some id → (has_number xs s ≡ true) × IsNumber xs id s
position-some xs s id h = some_by xs s _ id refl _ refl h

-- a set with a number adds none
pub with_set-old : (xs : List Set) (s : Set) → has_number xs s ≡ true → xs ≡ with_set xs s
unfolding with_set
with_set-old xs s e = sym (ap (λ b. cond b xs (xs ++ s ∷ [])) e)

pub with_set-new : (xs : List Set) (s : Set) → has_number xs s ≡ false → xs ++ s ∷ [] ≡ with_set xs s
unfolding with_set
with_set-new xs s e = sym (ap (λ b. cond b xs (xs ++ s ∷ [])) e)

grew_by : (xs : List Set) (s : Set) (b : Bool) → Grew xs (cond b xs (xs ++ s ∷ []))
grew_by xs s true = grew-refl xs
grew_by xs s false = record { more = s ∷ []; is = refl }

pub with_set-grew : (xs : List Set) (s : Set) → Grew xs (with_set xs s)
unfolding with_set
with_set-grew xs s = grew_by xs s (has_number xs s)

back_by : (xs : List Set) (s : Set) (b : Bool) → take (length xs) (cond b xs (xs ++ s ∷ [])) ≡ xs
back_by xs s true = take-length xs
back_by xs s false = take-append_seam xs (s ∷ [])

-- what was added is taken back
pub with_set-back : (xs : List Set) (s : Set) → take (length xs) (with_set xs s) ≡ xs
unfolding with_set
with_set-back xs s = back_by xs s (has_number xs s)

pub apart-none : AreApart []
apart-none = record { one = λ i j h k e. absurd (omega arith) }

last_or_before : (n i : ℕ) → i < n + 1 → (i < n) ⊎ (i ≡ n)
last_or_before n i h = by (nat_lt i n) refl
  where
    by : (b : Bool) → nat_lt i n ≡ b → (i < n) ⊎ (i ≡ n)
    by true e = inl (grind (arith, nat_tests))
    by false e = inr (grind (arith, nat_tests))

-- a set that had no number comes behind
pub apart-push : (xs : List Set) (s : Set) → AreApart xs → has_number xs s ≡ false → AreApart (xs ++ s ∷ [])
apart-push xs s a e = record {
  one = λ i j h k same.
      let n = length-append xs (s ∷ []) in
      elim (last_or_before (length xs) i (omega (arith, n))) [
        | inl il ↦ elim (last_or_before (length xs) j (omega (arith, n))) [
          | inl jl ↦ a.one i j il jl (sym (number-kept xs (s ∷ []) i il) ∙ same ∙ number-kept xs (s ∷ []) j jl)
          | inr je ↦ absurd (not_same xs s e i il (sym (number-kept xs (s ∷ []) i il) ∙ same ∙ ap (λ m. set_at (xs ++ s ∷ []) m) je ∙ number-last xs s))
        ]
        | inr ie ↦ elim (last_or_before (length xs) j (omega (arith, n))) [
          | inl jl ↦ absurd (not_same xs s e j jl (sym (number-kept xs (s ∷ []) j jl) ∙ sym same ∙ ap (λ m. set_at (xs ++ s ∷ []) m) ie ∙ number-last xs s))
          | inr je ↦ ie ∙ sym je
        ]
      ];
}

apart_by : (xs : List Set) (s : Set) (b : Bool) → has_number xs s ≡ b → AreApart xs → AreApart (cond b xs (xs ++ s ∷ []))
apart_by xs s true e a = a
apart_by xs s false e a = apart-push xs s a e

pub apart-with_set : (xs : List Set) (s : Set) → AreApart xs → AreApart (with_set xs s)
unfolding with_set
apart-with_set xs s a = apart_by xs s (has_number xs s) refl a

-- numbers that are taken back leave the others apart
pub apart-take : (xs : List Set) (n : ℕ) → AreApart xs → AreApart (take n xs)
unfolding set_at
apart-take xs n a = record {
  one = λ i j h k same.
      let l = length-take n xs in
      a.one i j (omega (arith, l)) (omega (arith, l)) (sym (get_or-take n xs i none (omega (arith, l))) ∙ same ∙ get_or-take n xs j none (omega (arith, l)));
}

pub number-next : (xs : List Set) (s : Set) → has_number xs s ≡ false → IsNumber (with_set xs s) (length xs) s
number-next xs s e = subst (λ ys. IsNumber ys (length xs) s) (with_set-new xs s e) (record { below = let n = length-append xs (s ∷ []) in omega (arith, n); is = number-last xs s })

-- what stands at a place, whatever is given beyond the end
pub get_or_any : (xs ys : List Set) (i : ℕ) (s : Set) → xs ≡ ys → i < length ys → s ≡ get_or xs i s → s ≡ set_at ys i
unfolding set_at
get_or_any xs ys i s e l h = h ∙ ap (λ zs. get_or zs i s) e ∙ get_or_default ys i s none l

pub added : (xs ys : List Set) (s : Set) (id : ℕ) → has_number xs s ≡ false → ys ≡ xs ++ s ∷ [] → id ≡ length xs → (ys ≡ with_set xs s) × IsNumber ys id s
added xs ys s id e h n =
    let is : ys ≡ with_set xs s = h ∙ with_set-new xs s e in
    (is, subst (λ zs. IsNumber zs id s) (sym is) (subst (λ k. IsNumber (with_set xs s) k s) (sym n) (number-next xs s e)))

pub found : (xs : List Set) (s : Set) (id : ℕ) → position (λ t. is_same t s) xs ≡ Some id → (xs ≡ with_set xs s) × IsNumber xs id s
found xs s id e = let p = position-some xs s id e in (with_set-old xs s p.0, p.1)

-- a set that has a number adds none
pub numbered-old : (xs : List Set) (s : Set) (id : ℕ) → IsNumber xs id s → (xs ≡ with_set xs s) × IsNumber xs id s
unfolding set_at
numbered-old xs s id h = (with_set-old xs s (list_any_at (λ t. is_same t s) xs id none h.below (subst (λ z. is_same z s ≡ true) (sym h.is) (is_same-refl s))), h)
