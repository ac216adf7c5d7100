-- What a filter leaves, and what it takes away.
use Rattle.std.proofs.Common.{◌≡◌, ◌+◌, Bool, true, false, cond, not, List, [], ◌∷◌, length, inl, inr, refl, sym, ◌∙◌, ap, subst, arith}
use Rattle.std.specs.List.{Contains, filter}
use Rattle.infer_lazy.proofs.Members.{head-in, tail-in, cons-cases, nothing-in}

module _ {A : Type 0} (p : A → Bool) where
  passes_by : (x v : A) (xs : List A) (c : Bool) → p x ≡ c → Contains (cond c (x ∷ filter p xs) (filter p xs)) v → (Contains (filter p xs) v → (p v ≡ true) × Contains xs v) → (p v ≡ true) × Contains (x ∷ xs) v
  passes_by x v xs true e h more = elim (cons-cases x (filter p xs) v h) [
    | inl is ↦ (ap p (sym is) ∙ e, subst (λ y. Contains (x ∷ xs) y) is (head-in x xs))
    | inr d ↦ let m = more d in (m.0, tail-in x xs v m.1)
  ]
  passes_by x v xs false e h more = let m = more h in (m.0, tail-in x xs v m.1)

  -- what a filter leaves passes its test, and was there
  pub passes : (v : A) (xs : List A) → Contains (filter p xs) v → (p v ≡ true) × Contains xs v
  passes v [] h = absurd (nothing-in v h)
  passes v (x ∷ xs) h = passes_by x v xs (p x) refl h (passes v xs)

  left_by : (x v : A) (xs : List A) (c : Bool) → p x ≡ c → p v ≡ true → Contains (x ∷ xs) v → (Contains xs v → Contains (filter p xs) v) → Contains (cond c (x ∷ filter p xs) (filter p xs)) v
  left_by x v xs true e t h more = elim (cons-cases x xs v h) [ inl is ↦ subst (λ y. Contains (x ∷ filter p xs) y) is (head-in x (filter p xs)) | inr d ↦ tail-in x (filter p xs) v (more d) ]
  left_by x v xs false e t h more = elim (cons-cases x xs v h) [ inl is ↦ absurd (let f : true ≡ false = sym t ∙ ap p (sym is) ∙ e in cc) | inr d ↦ more d ]

  -- what passes the test is left
  pub left : (v : A) (xs : List A) → p v ≡ true → Contains xs v → Contains (filter p xs) v
  left v [] t h = absurd (nothing-in v h)
  left v (x ∷ xs) t h = left_by x v xs (p x) refl t h (left v xs t)

  parts_by : (x : A) (xs : List A) (c : Bool) → length (filter p xs) + length (filter (λ q. not (p q)) xs) ≡ length xs
      → length (cond c (x ∷ filter p xs) (filter p xs)) + length (cond (not c) (x ∷ filter (λ q. not (p q)) xs) (filter (λ q. not (p q)) xs)) ≡ length (x ∷ xs)
  parts_by x xs true h = omega arith
  parts_by x xs false h = omega arith

  pub parts : (xs : List A) → length (filter p xs) + length (filter (λ q. not (p q)) xs) ≡ length xs
  parts [] = refl
  parts (x ∷ xs) = parts_by x xs (p x) (parts xs)
