-- What a merge adds: the variables that the table lacks.
use Rattle.std.proofs.Common.{◌≡◌, ℕ, ◌+◌, ◌-◌, ◌≤◌, inl, inr, Bool, true, false, cond, not, List, [], ◌∷◌, length, refl, sym, ◌∙◌, ap, subst, arith}
use Rattle.std.specs.Prelude.{Option, Some, None, IsSome, is_some}
use Rattle.std.specs.List.{Contains, filter}
use Rattle.std.specs.FinMap as map
use Rattle.std.proofs.lemmas.Map.Views.{Contains-from_any, tells_apart}
use Rattle.std.proofs.lemmas.Map.Lookups.{exact_unsigned}
use Rattle.infer_sets.specs.Sets.{Set}
use Rattle.infer_equations.specs.Assignment.{Map}
use Rattle.infer_lazy.proofs.Members.{head-in, tail-in, cons-cases, nothing-in}
use Rattle.infer_core.specs.Merge.{shared}

passes_by : (p : ℕ → Bool) (x v : ℕ) (xs : List ℕ) (c : Bool) → p x ≡ c → Contains (cond c (x ∷ filter p xs) (filter p xs)) v → (Contains (filter p xs) v → p v ≡ true) → p v ≡ true
passes_by p x v xs true e h more = elim (cons-cases x (filter p xs) v h) [ inl is ↦ ap p (sym is) ∙ e | inr d ↦ more d ]
passes_by p x v xs false e h more = more h

-- what a filter leaves passes its test
passes : (p : ℕ → Bool) (v : ℕ) (xs : List ℕ) → Contains (filter p xs) v → p v ≡ true
passes p v [] h = absurd (nothing-in v h)
passes p v (x ∷ xs) h = passes_by p x v xs (p x) refl h (passes p v xs)

left_by : (p : ℕ → Bool) (x v : ℕ) (xs : List ℕ) (c : Bool) → p x ≡ c → p v ≡ true → Contains (x ∷ xs) v → (Contains xs v → Contains (filter p xs) v) → Contains (cond c (x ∷ filter p xs) (filter p xs)) v
left_by p x v xs true e t h more = elim (cons-cases x xs v h) [ inl is ↦ subst (λ y. Contains (x ∷ filter p xs) y) is (head-in x (filter p xs)) | inr d ↦ tail-in x (filter p xs) v (more d) ]
left_by p x v xs false e t h more = elim (cons-cases x xs v h) [ inl is ↦ absurd (let f : true ≡ false = sym t ∙ ap p (sym is) ∙ e in cc) | inr d ↦ more d ]

-- what passes the test is left
left : (p : ℕ → Bool) (v : ℕ) (xs : List ℕ) → p v ≡ true → Contains xs v → Contains (filter p xs) v
left p v [] t h = absurd (nothing-in v h)
left p v (x ∷ xs) t h = left_by p x v xs (p x) refl t h (left p v xs t)

parts_by : (p : ℕ → Bool) (x : ℕ) (xs : List ℕ) (c : Bool) → length (filter (λ q. not (p q)) xs) + length (filter p xs) ≡ length xs
    → length (cond (not c) (x ∷ filter (λ q. not (p q)) xs) (filter (λ q. not (p q)) xs)) + length (cond c (x ∷ filter p xs) (filter p xs)) ≡ length (x ∷ xs)
parts_by p x xs true h = omega arith
parts_by p x xs false h = omega arith

parts : (p : ℕ → Bool) (xs : List ℕ) → length (filter (λ q. not (p q)) xs) + length (filter p xs) ≡ length xs
parts p [] = refl
parts p (x ∷ xs) = parts_by p x xs (p x) (parts p xs)

none_if : (o : Option Set) → not (is_some o) ≡ true → o ≡ None
none_if None e = refl
none_if (Some s) e = absurd (let h = e in cc)

abbrev pub lacking : Map → List ℕ → List ℕ
lacking m xs = filter (λ q. not (map.contains_key m q)) xs

pub lacking-apart : (m : Map) (xs vs : List ℕ) → vs ≡ lacking m xs → (v : ℕ) → Contains vs v → map.get m v ≡ None
lacking-apart m xs vs e v h = none_if (map.get m v) (passes (λ q. not (map.contains_key m q)) v xs (subst (λ ys. Contains ys v) e h))

pub lacking-stored : (m n : Map) (xs vs : List ℕ) → vs ≡ lacking m xs → xs ≡ map.keys n → (v : ℕ) → IsSome (map.get n v) → map.get m v ≡ None → Contains vs v
lacking-stored m n xs vs e f v has none =
    let in_keys : Contains (map.keys n) v = Contains-from_any (tells_apart exact_unsigned) v (map.keys n) (sym (map.contains_key-keys n v) ∙ has) in
    subst (λ ys. Contains ys v) (sym e) (left (λ q. not (map.contains_key m q)) v xs (ap (λ o. not (is_some o)) none) (subst (λ ys. Contains ys v) (sym f) in_keys))

pub lacking-fewer : (m : Map) (xs vs : List ℕ) → vs ≡ lacking m xs → length vs ≤ length xs
lacking-fewer m xs vs e = let h = parts (λ q. map.contains_key m q) xs in let l = ap length e in omega arith

pub shared-rest : (m n : Map) (xs vs : List ℕ) → vs ≡ lacking m xs → xs ≡ map.keys n → length xs - length vs ≡ shared m n
unfolding shared
shared-rest m n xs vs e f =
    let h = parts (λ q. map.contains_key m q) xs in
    let l = ap length e in
    let k : length (filter (λ q. map.contains_key m q) xs) ≡ length (filter (λ q. map.contains_key m q) (map.keys n)) = ap (λ ys. length (filter (λ q. map.contains_key m q) ys)) f in
    omega arith
