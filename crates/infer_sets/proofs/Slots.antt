-- Numbers that are found again by a digest.
use Rattle.std.proofs.Common.{◌≡◌, ℕ, ◌+◌, ◌<◌, ◌≤◌, Bool, true, false, cond, ◌⊎◌, inl, inr, List, [], ◌∷◌, ◌++◌, length, take, refl, sym, ◌∙◌, ap, subst, arith, length-append, length-take}
use Rattle.std.specs.Prelude.{Option, Some, None, nat_lt}
use Rattle.std.specs.List.{position}
use Rattle.std.specs.Map.{lookup}
use Rattle.std.specs.Ordering.{nat_cmp, ordering_then, is_eq, eq_by_cmp}
use Rattle.std.specs.Cmp.{IsTotalOrder, nat_cmp_total, then_total, on_total, tied_itself}
use Rattle.std.specs.FinMap.{nat_cmp-IsAntisymmetric}
use Rattle.std.specs.declared.cmp.Ordering.{Ordering}
use Rattle.std.specs.declared.cmp.Ordering.TheVariants.{Less, Equal, Greater}
use Rattle.std.proofs.lemmas.Bool.Decides.{nat_tests}
use Rattle.std.proofs.lemmas.List.{get_or-take}
use Rattle.std.proofs.lemmas.List.Sums.{position_or_len_is}
use Rattle.infer_sets.specs.Sets.{Set, none}
use Rattle.infer_sets.specs.Numbers.{set_at, AreApart, is_same}
use Rattle.infer_sets.specs.Digest.{IsDigest}
use Rattle.infer_sets.specs.Slots.{slot_cmp, slot_at, live, Holds, IsReached, AreReached, IsFree, Finds}
use Rattle.infer_sets.proofs.Growth.{is_same-refl, is_same-is, number-kept, number-last}
use Rattle.infer_sets.proofs.Listed.{digest-once}

pub some_same : (n m : ℕ) → ◌≡◌ {A = Option ℕ} (Some n) (Some m) → n ≡ m
some_same n m e = ap (λ (o : Option ℕ). or_zero o) e
  where
    or_zero : Option ℕ → ℕ
    or_zero (Some k) = k
    or_zero None = 0

live_by : (n id : ℕ) (b : Bool) → nat_lt id n ≡ b → cond b (Some id) None ≡ None → n ≤ id
live_by n id true e h = absurd (let f = h in cc)
live_by n id false e h = grind (arith, nat_tests)

-- what is free has no number that is given
pub free-not : (n id : ℕ) (o : Option ℕ) → live n o ≡ None → o ≡ Some id → n ≤ id
free-not n id None f e = absurd (let h = e in cc)
free-not n id (Some m) f e = subst (λ k. n ≤ k) (some_same m id e) (live_by n m _ refl f)

live_some : (n m id : ℕ) (b : Bool) → nat_lt m n ≡ b → cond b (Some m) None ≡ Some id → (m ≡ id) × (id < n)
live_some n m id true e h = let is = some_same m id h in (is, subst (λ k. k < n) is (grind (arith, nat_tests)))
live_some n m id false e h = absurd (let f = h in cc)

pub live-there : (n id : ℕ) (o : Option ℕ) → live n o ≡ Some id → (o ≡ Some id) × (id < n)
live-there n id None e = absurd (let f = e in cc)
live-there n id (Some m) e = let h = live_some n m id _ refl e in (ap Some h.0, h.1)

-- the walk so far: each probe has a number of another set
pub record Passed (numbers : List Set) (slots : ℕ → ℕ → Option ℕ) (s : Set) (d k : ℕ) : Type 0 where
  pub at : (j id : ℕ) → j < k → slots d j ≡ Some id → set_at numbers id ≡ s → ⊥

pub passed-none : (numbers : List Set) (slots : ℕ → ℕ → Option ℕ) (s : Set) (d : ℕ) → Passed numbers slots s d 0
passed-none numbers slots s d = record { at = λ j id l e h. omega (arith, l) }

same_or_before : (j k : ℕ) → j < k + 1 → (j ≡ k) ⊎ (j < k)
same_or_before j k h = by (nat_lt j k) refl
  where
    by : (b : Bool) → nat_lt j k ≡ b → (j ≡ k) ⊎ (j < k)
    by true e = inr (grind (arith, nat_tests))
    by false e = inl (grind (arith, nat_tests))

pub passed-next : (numbers : List Set) (slots : ℕ → ℕ → Option ℕ) (s : Set) (d k id : ℕ) → slots d k ≡ Some id → is_same (set_at numbers id) s ≡ false → Passed numbers slots s d k → Passed numbers slots s d (k + 1)
passed-next numbers slots s d k id e f p = record {
  at = λ j n l h same. elim (same_or_before j k l) [
    | inl is ↦
        let n_id = some_same n id (sym h ∙ ap (slots d) is ∙ e) in
        let t : is_same (set_at numbers id) s ≡ true = subst (λ m. is_same (set_at numbers m) s ≡ true) n_id (subst (λ z. is_same (set_at numbers n) z ≡ true) same (is_same-refl (set_at numbers n))) in
        cc
    | inr lt ↦ p.at j n lt h same
  ];
}

three : (j k : ℕ) → (j < k) ⊎ ((j ≡ k) ⊎ (k < j))
three j k = by (nat_lt j k) refl (nat_lt k j) refl
  where
    by : (b : Bool) → nat_lt j k ≡ b → (c : Bool) → nat_lt k j ≡ c → (j < k) ⊎ ((j ≡ k) ⊎ (k < j))
    by true e c f = inl (grind (arith, nat_tests))
    by false e true f = inr (inr (grind (arith, nat_tests)))
    by false e false f = inr (inl (grind (arith, nat_tests)))

-- behind a free probe nothing is to be found
pub finds-none : (numbers : List Set) (slots : ℕ → ℕ → Option ℕ) (s : Set) (d k : ℕ) → AreReached numbers slots → IsDigest s d → Passed numbers slots s d k → live (length numbers) (slots d k) ≡ None → Finds numbers s None
unfolding Finds
finds-none numbers slots s d k a h p f = λ i l is.
    let r = a.there i d l (subst (λ t. IsDigest t d) (sym is) h) in
    elim (three r.probe k) [
      | inl lt ↦ p.at r.probe i lt r.there is
      | inr rest ↦ elim rest [
        | inl e ↦ let m = free-not (length numbers) i (slots d k) f (ap (slots d) (sym e) ∙ r.there) in omega (arith, m, l)
        | inr lt ↦
            let b = r.before k lt in
            let m = free-not (length numbers) b.id (slots d k) f b.there in
            let lb = b.below in
            omega (arith, m, l, lb)
      ]
    ]

pub finds-some : (numbers : List Set) (slots : ℕ → ℕ → Option ℕ) (s : Set) (d k id : ℕ) → live (length numbers) (slots d k) ≡ Some id → is_same (set_at numbers id) s ≡ true → Finds numbers s (Some id)
unfolding Finds
finds-some numbers slots s d k id e t = record { below = (live-there (length numbers) id (slots d k) e).1; is = is_same-is _ _ t }

differs : (numbers : List Set) (s : Set) (k : ℕ) (b : Bool) → is_same (set_at numbers k) s ≡ b → (set_at numbers k ≡ s → ⊥) → is_same (set_at numbers k) s ≡ false
differs numbers s k true e n = absurd (n (is_same-is _ _ e))
differs numbers s k false e n = e

position_some : (n m i : ℕ) (b : Bool) → nat_lt n m ≡ b → n ≡ i → i < m → Some i ≡ cond b (Some n) None
position_some n m i true e is l = ap Some (sym is)
position_some n m i false e is l = absurd (let h : m ≤ n = grind (arith, nat_tests) in omega (arith, h, is))

position_none : (n m : ℕ) (b : Bool) → nat_lt n m ≡ b → n ≡ m → ◌≡◌ {A = Option ℕ} None (cond b (Some n) None)
position_none n m true e is = absurd (let h : n < m = grind (arith, nat_tests) in omega (arith, h, is))
position_none n m false e is = refl

-- what is found is the first place, since no set has two
pub finds-first : (numbers : List Set) (s : Set) (r : Option ℕ) → AreApart numbers → Finds numbers s r → r ≡ position (λ t. is_same t s) numbers
unfolding Finds set_at
finds-first numbers s None a f = position_none _ (length numbers) _ refl (position_or_len_is (λ t. is_same t s) numbers (length numbers) none (omega arith) (λ k lt. differs numbers s k _ refl (f k lt)) (λ lt. absurd (omega (arith, lt))))
finds-first numbers s (Some i) a f = position_some _ (length numbers) i _ refl (position_or_len_is (λ t. is_same t s) numbers i none (let l = f.below in omega (arith, l))
    (λ k lt. differs numbers s k _ refl (λ e. let same = a.one k i (let l = f.below in omega (arith, lt, l)) f.below (e ∙ sym f.is) in omega (arith, lt, same)))
    (λ lt. subst (λ z. is_same z s ≡ true) (sym f.is) (is_same-refl s))) f.below

both_equal : (r s : Ordering) → ordering_then r s ≡ Equal → (r ≡ Equal) × (s ≡ Equal)
both_equal Less s e = absurd (let h = e in cc)
both_equal Equal s e = (refl, e)
both_equal Greater s e = absurd (let h = e in cc)

equal_from_tie : (r : Ordering) → is_eq r ≡ true → r ≡ Equal
equal_from_tie Less e = absurd (let h = e in cc)
equal_from_tie Equal e = refl
equal_from_tie Greater e = absurd (let h = e in cc)

slot_total : IsTotalOrder slot_cmp
slot_total = then_total (on_total (λ (p : ℕ × ℕ). p.0) nat_cmp_total) (on_total (λ (p : ℕ × ℕ). p.1) nat_cmp_total)

slot_exact : (p q : ℕ × ℕ) → eq_by_cmp slot_cmp p q ≡ true → (p.0 ≡ q.0) × (p.1 ≡ q.1)
slot_exact p q e =
    let h = both_equal (nat_cmp p.0 q.0) (nat_cmp p.1 q.1) (equal_from_tie _ e) in
    (nat_cmp-IsAntisymmetric p.0 q.0 h.0, nat_cmp-IsAntisymmetric p.1 q.1 h.1)

-- the slots after a number was put under a digest and a probe: there it is, and all else is as it was
pub record IsPut (slots after : ℕ → ℕ → Option ℕ) (d k n : ℕ) : Type 0 where
  pub there : after d k ≡ Some n
  pub rest : (e j : ℕ) → ((e ≡ d) × (j ≡ k) × (after e j ≡ Some n)) ⊎ (after e j ≡ slots e j)

put_by : (o p : Option ℕ) (n d k e j : ℕ) (b : Bool) → eq_by_cmp slot_cmp (d, k) (e, j) ≡ b → p ≡ cond b (Some n) o → ((e ≡ d) × (j ≡ k) × (p ≡ Some n)) ⊎ (p ≡ o)
put_by o p n d k e j true h is = let s = slot_exact (d, k) (e, j) h in inl (sym s.0, sym s.1, is)
put_by o p n d k e j false h is = inr is

pub put-slot : (es fs : List ((ℕ × ℕ) × ℕ)) (d k n : ℕ) → ((q : ℕ × ℕ) → lookup (λ x. eq_by_cmp slot_cmp q x) fs ≡ cond (eq_by_cmp slot_cmp (d, k) q) (Some n) (lookup (λ x. eq_by_cmp slot_cmp q x) es)) → IsPut (slot_at es) (slot_at fs) d k n
put-slot es fs d k n h = record {
  there = h (d, k) ∙ ap (λ r. cond (is_eq r) (Some n) (slot_at es d k)) (tied_itself slot_total (d, k));
  rest = λ e j. put_by (slot_at es e j) (slot_at fs e j) n d k e j _ refl (h (e, j));
}

module _ (numbers : List Set) (slots after : ℕ → ℕ → Option ℕ) (d k : ℕ) (a : AreReached numbers slots) (f : IsFree slots (length numbers) d k) (p : IsPut slots after d k (length numbers)) where
  -- no number that is given stood there
  kept : (e j id : ℕ) → slots e j ≡ Some id → id < length numbers → after e j ≡ Some id
  kept e j id h l = elim (p.rest e j) [
    | inl at ↦ absurd (let m = free-not (length numbers) id (slots d k) f.free (ap (λ x. slots x k) (sym at.0) ∙ ap (slots e) (sym at.1) ∙ h) in omega (arith, m, l))
    | inr same ↦ same ∙ h
  ]

  pub reached-put : AreReached numbers after
  reached-put = record {
    least = λ e j id h. elim (p.rest e j) [
      | inl at ↦ let n = some_same id (length numbers) (sym h ∙ at.2) in let m = f.most in let i = at.1 in omega (arith, n, m, i)
      | inr same ↦ a.least e j id (sym same ∙ h)
    ];
    there = λ i e l h.
        let r = a.there i e l h in
        record {
          probe = r.probe;
          there = kept e r.probe i r.there l;
          before = λ j lt. let b = r.before j lt in let lb = b.below in record { id = b.id; there = kept e j b.id b.there (omega (arith, lb, l)); below = b.below };
        };
  }

  pub reached-push : (s : Set) → IsDigest s d → AreReached (numbers ++ s ∷ []) after
  reached-push s h =
      let put = reached-put in
      record {
        least = put.least;
        there = λ i e l g.
            let n = length-append numbers (s ∷ []) in
            elim (same_or_before i (length numbers) (omega (arith, l, n))) [
              | inl is ↦
                  let e_d = digest-once s e d (subst (λ z. IsDigest z e) (ap (set_at (numbers ++ s ∷ [])) is ∙ number-last numbers s) g) h in
                  subst (λ x. IsReached after x i) (sym e_d) (subst (λ m. IsReached after d m) (sym is) (record {
                    probe = k;
                    there = p.there;
                    before = λ j lt. let b = f.before j lt in record { id = b.id; there = kept d j b.id b.there b.below; below = b.below };
                  }))
              | inr lt ↦ put.there i e lt (subst (λ z. IsDigest z e) (number-kept numbers (s ∷ []) i lt) g)
            ];
      }

pub reached-none : (slots : ℕ → ℕ → Option ℕ) → ((d k : ℕ) → slots d k ≡ None) → AreReached [] slots
reached-none slots e = record { least = λ d k id h. absurd (let f = sym (e d k) ∙ h in cc); there = λ i d l h. absurd (omega (arith, l)) }

pub slots-none : (es : List ((ℕ × ℕ) × ℕ)) → es ≡ [] → (d k : ℕ) → slot_at es d k ≡ None
slots-none es e d k = ap (λ fs. slot_at fs d k) e

-- numbers that are taken back leave the others to be found
pub reached-take : (numbers : List Set) (slots : ℕ → ℕ → Option ℕ) (n : ℕ) → AreReached numbers slots → AreReached (take n numbers) slots
unfolding set_at
reached-take numbers slots n a = record {
  least = a.least;
  there = λ i d l h. let m = length-take n numbers in a.there i d (omega (arith, m, l)) (subst (λ z. IsDigest z d) (get_or-take n numbers i none (omega (arith, m, l))) h);
}

pub free-first : (slots : ℕ → ℕ → Option ℕ) (n d : ℕ) → (j : ℕ) → j < 0 → Holds slots d j n
free-first slots n d j l = absurd (omega (arith, l))

pub held-next : (slots : ℕ → ℕ → Option ℕ) (n d k id : ℕ) → live n (slots d k) ≡ Some id → ((j : ℕ) → j < k → Holds slots d j n) → (j : ℕ) → j < k + 1 → Holds slots d j n
held-next slots n d k id e h j l = elim (same_or_before j k l) [
  | inl is ↦ let t = live-there n id (slots d k) e in record { id = id; there = ap (slots d) is ∙ t.0; below = t.1 }
  | inr lt ↦ h j lt
]

module _ (numbers : List Set) (es fs : List ((ℕ × ℕ) × ℕ)) (d k n : ℕ) (is : n ≡ length numbers) (a : AreReached numbers (slot_at es)) (f : IsFree (slot_at es) n d k)
    (put : (q : ℕ × ℕ) → lookup (λ x. eq_by_cmp slot_cmp q x) fs ≡ cond (eq_by_cmp slot_cmp (d, k) q) (Some n) (lookup (λ x. eq_by_cmp slot_cmp q x) es)) where
  -- the pair of the next number was put
  pub add-pair : AreReached numbers (slot_at fs)
  add-pair = reached-put numbers (slot_at es) (slot_at fs) d k a (subst (λ m. IsFree (slot_at es) m d k) is f) (subst (λ m. IsPut (slot_at es) (slot_at fs) d k m) is (put-slot es fs d k n put))

  pub add-set : (s : Set) → IsDigest s d → AreReached (numbers ++ s ∷ []) (slot_at fs)
  add-set s h = reached-push numbers (slot_at es) (slot_at fs) d k a (subst (λ m. IsFree (slot_at es) m d k) is f) (subst (λ m. IsPut (slot_at es) (slot_at fs) d k m) is (put-slot es fs d k n put)) s h
