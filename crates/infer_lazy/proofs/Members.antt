-- Members of lists, for any type.
use Rattle.std.proofs.Common.{◌≡◌, zero, suc, Bool, true, false, ◌||◌, ◌⊎◌, inl, inr, List, [], ◌∷◌, map, refl, ap, subst, ◌∙◌, arith}
use Rattle.std.specs.List.{Contains, list_any}

module _ {A : Type 0} where
  pub head-in : (x : A) (xs : List A) → Contains (x ∷ xs) x
  head-in x xs = (0, omega arith, refl)

  pub tail-in : (x : A) (xs : List A) (w : A) → Contains xs w → Contains (x ∷ xs) w
  tail-in x xs w p = (suc p.0, omega arith, p.2)

  pub cons-cases : (x : A) (xs : List A) (w : A) → Contains (x ∷ xs) w → (x ≡ w) ⊎ Contains xs w
  cons-cases x xs w (zero, l, e) = inl e
  cons-cases x xs w (suc k, l, e) = inr (k, omega arith, e)

  pub nothing-in : (w : A) → Contains [] w → ⊥
  nothing-in w c = let l = c.1 in omega arith

or_later : (a c : Bool) → c ≡ true → (a || c) ≡ true
or_later true c e = refl
or_later false c e = e

pub any_from : {A : Type 0} (e : A → A → Bool) → ((x : A) → e x x ≡ true) → (q : A) (ks : List A) → Contains ks q → list_any (e q) ks ≡ true
any_from e it q [] c = absurd (nothing-in q c)
any_from e it q (k ∷ ks) c = elim (cons-cases k ks q c) [
  | inl is ↦ ap (λ b. b || list_any (e q) ks) (ap (λ x. e q x) is ∙ it q)
  | inr d ↦ or_later (e q k) (list_any (e q) ks) (any_from e it q ks d)
]

pub map-in : {A B : Type 0} (f : A → B) (x : A) (xs : List A) → Contains xs x → Contains (map f xs) (f x)
map-in f x [] c = absurd (nothing-in x c)
map-in f x (y ∷ ys) c = elim (cons-cases y ys x c) [
  | inl is ↦ subst (λ z. Contains (f y ∷ map f ys) (f z)) is (head-in (f y) (map f ys))
  | inr d ↦ tail-in (f y) (map f ys) (f x) (map-in f x ys d)
]
