-- A key that is added to keys in order.
use Rattle.std.proofs.Common.{◌≡◌, ℕ, ◌≤◌, ◌⊎◌, inl, inr, List, [], ◌∷◌, refl, sym, ◌∙◌, ap, subst, arith}
use Rattle.std.proofs.lemmas.List.Sums.{sum_by-cons}
use Rattle.std.specs.List.{Contains, AllByRecursion, sum_by}
use Rattle.std.specs.List.Sorted.{IsStrictlySortedBy}
use Rattle.std.specs.Ordering.{match_ordering, ordering_reverse}
use Rattle.std.specs.Cmp.{IsTotalOrder}
use Rattle.std.specs.BTreeSet.{insert_key}
use Rattle.std.specs.declared.cmp.Ordering.{Ordering}
use Rattle.std.specs.declared.cmp.Ordering.TheVariants.{Less, Equal, Greater}
use Rattle.infer_lazy.proofs.Members.{head-in, tail-in, cons-cases, nothing-in}

module _ {K : Type 0} (R : K → K → Ordering) (k : K) where
  abbrev with_key : K → List K → Ordering → List K
  with_key x xs r = match_ordering r (k ∷ x ∷ xs) (x ∷ xs) (x ∷ insert_key R xs k)

  keeps_by : (x : K) (xs : List K) (r : Ordering) (p : K) → Contains (x ∷ xs) p → (Contains xs p → Contains (insert_key R xs k) p) → Contains (with_key x xs r) p
  keeps_by x xs Less p c more = tail-in k (x ∷ xs) p c
  keeps_by x xs Equal p c more = c
  keeps_by x xs Greater p c more = elim (cons-cases x xs p c) [ inl is ↦ subst (λ z. Contains (x ∷ insert_key R xs k) z) is (head-in x (insert_key R xs k)) | inr d ↦ tail-in x (insert_key R xs k) p (more d) ]

  pub add-keeps : (xs : List K) (p : K) → Contains xs p → Contains (insert_key R xs k) p
  add-keeps [] p c = absurd (nothing-in p c)
  add-keeps (x ∷ xs) p c = keeps_by x xs (R k x) p c (add-keeps xs p)

  new_by : (x : K) (xs : List K) (r : Ordering) (p : K) → Contains (with_key x xs r) p → (Contains (insert_key R xs k) p → (p ≡ k) ⊎ Contains xs p) → (p ≡ k) ⊎ Contains (x ∷ xs) p
  new_by x xs Less p c more = elim (cons-cases k (x ∷ xs) p c) [ inl is ↦ inl (sym is) | inr d ↦ inr d ]
  new_by x xs Equal p c more = inr c
  new_by x xs Greater p c more = elim (cons-cases x (insert_key R xs k) p c) [
    | inl is ↦ inr (subst (λ z. Contains (x ∷ xs) z) is (head-in x xs))
    | inr d ↦ elim (more d) [ inl is ↦ inl is | inr e ↦ inr (tail-in x xs p e) ]
  ]

  pub add-new : (xs : List K) (p : K) → Contains (insert_key R xs k) p → (p ≡ k) ⊎ Contains xs p
  add-new [] p c = elim (cons-cases k [] p c) [ inl is ↦ inl (sym is) | inr d ↦ inr d ]
  add-new (x ∷ xs) p c = new_by x xs (R k x) p c (add-new xs p)

  sums_by : (f : K → ℕ) (x : K) (xs : List K) (r : Ordering) → sum_by f xs ≤ sum_by f (insert_key R xs k) → sum_by f (x ∷ xs) ≤ sum_by f (with_key x xs r)
  sums_by f x xs Less h = let a = sum_by-cons f k (x ∷ xs) in omega arith
  sums_by f x xs Equal h = omega arith
  sums_by f x xs Greater h = let a = sum_by-cons f x xs in let c = sum_by-cons f x (insert_key R xs k) in omega arith

  pub add-sums : (f : K → ℕ) (xs : List K) → sum_by f xs ≤ sum_by f (insert_key R xs k)
  add-sums f [] = let a = sum_by-cons f k [] in omega arith
  add-sums f (x ∷ xs) = sums_by f x xs (R k x) (add-sums f xs)

  has_by : ((x y : K) → R x y ≡ Equal → x ≡ y) → (x : K) (xs : List K) (r : Ordering) → R k x ≡ r → Contains (insert_key R xs k) k → Contains (with_key x xs r) k
  has_by exact x xs Less e h = head-in k (x ∷ xs)
  has_by exact x xs Equal e h = subst (λ z. Contains (x ∷ xs) z) (sym (exact k x e)) (head-in x xs)
  has_by exact x xs Greater e h = tail-in x (insert_key R xs k) k h

  pub add-has : ((x y : K) → R x y ≡ Equal → x ≡ y) → (xs : List K) → Contains (insert_key R xs k) k
  add-has exact [] = head-in k []
  add-has exact (x ∷ xs) = has_by exact x xs (R k x) refl (add-has exact xs)

  all_by : (P : K → Type 0) (x : K) (xs : List K) (r : Ordering) → AllByRecursion P (x ∷ xs) → P k → AllByRecursion P (insert_key R xs k) → AllByRecursion P (with_key x xs r)
  all_by P x xs Less a p more = (p, a)
  all_by P x xs Equal a p more = a
  all_by P x xs Greater a p more = (a.0, more)

  all-added : (P : K → Type 0) (xs : List K) → AllByRecursion P xs → P k → AllByRecursion P (insert_key R xs k)
  all-added P [] a p = (p, tt)
  all-added P (x ∷ xs) a p = all_by P x xs (R k x) a p (all-added P xs a.1 p)

  module _ (o : IsTotalOrder R) where
    below-all : (x : K) (xs : List K) → R k x ≡ Less → AllByRecursion (λ y. R x y ≡ Less) xs → AllByRecursion (λ y. R k y ≡ Less) xs
    below-all x [] e a = tt
    below-all x (y ∷ ys) e a = (o.trans k x y e a.0, below-all x ys e a.1)

    ordered_by : (x : K) (xs : List K) (r : Ordering) → R k x ≡ r → IsStrictlySortedBy R (x ∷ xs) → IsStrictlySortedBy R (insert_key R xs k) → IsStrictlySortedBy R (with_key x xs r)
    unfolding IsStrictlySortedBy
    ordered_by x xs Less e h more = ((e, below-all x xs e h.0), h)
    ordered_by x xs Equal e h more = h
    ordered_by x xs Greater e h more = (all-added (λ y. R x y ≡ Less) xs h.0 (o.antisymm x k ∙ ap ordering_reverse e), more)

    pub add-ordered : (xs : List K) → IsStrictlySortedBy R xs → IsStrictlySortedBy R (insert_key R xs k)
    unfolding IsStrictlySortedBy
    add-ordered [] h = (tt, tt)
    add-ordered (x ∷ xs) h = ordered_by x xs (R k x) refl h (add-ordered xs h.1)
