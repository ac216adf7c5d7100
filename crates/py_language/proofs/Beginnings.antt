-- Where a phrase may begin, and so what cannot go on behind the one before it.
use Rattle.std.proofs.Common.{◌≡◌, ℕ, ◌≤◌, Bool, true, false, cond, List, [], ◌∷◌, ◌++◌, length, refl, arith}
use Rattle.py_language.specs.Sets.{mem, at, are_apart, is_within}
use Rattle.py_language.proofs.SetLaws.{or_right, mem_append, apart_mem, within_mem}

-- the set where the answer is yes, and else none
abbrev pub and_if : Bool → List ℕ → List ℕ
and_if true xs = xs
and_if false xs = []

module _ {T : Type 0} (code : T → ℕ) where
  -- it begins with a token of f, or has none where n says so
  abbrev pub Begins : Bool → List ℕ → List T → Type 0
  Begins n f [] = n ≡ true
  Begins n f (t ∷ ts) = mem (code t) f ≡ true

  pub between : (n : Bool) (f c : List ℕ) (y rest : List T) → Begins n f y → are_apart c f ≡ true → (n ≡ true → at code c rest ≡ false) → at code c (y ++ rest) ≡ false
  between n f c [] rest b d h = h b
  between n f c (t ∷ y) rest b d h = apart_mem (code t) c f d b

  pub not_between : (f c : List ℕ) (y rest : List T) → Begins false f y → are_apart c f ≡ true → at code c (y ++ rest) ≡ false
  not_between f c y rest b d = between false f c y rest b d (λ w. absurd cc)

  pub when : (n : Bool) (c : List ℕ) (rest : List T) → at code (and_if n c) rest ≡ false → n ≡ true → at code c rest ≡ false
  when true c rest h e = h
  when false c rest h e = absurd cc

  pub begins_both : (n m : Bool) (f g : List ℕ) (x y : List T) → Begins n f x → Begins m g y → Begins (cond n m false) (f ++ and_if n g) (x ++ y)
  begins_both true m f g [] [] b d = d
  begins_both true m f g [] (t ∷ y) b d = rw (mem_append (code t) f g) (or_right (mem (code t) f) (mem (code t) g) d)
  begins_both false m f g [] y b d = absurd cc
  begins_both n m f g (t ∷ x) y b d = rw (mem_append (code t) f (and_if n g), b) refl

  pub at_begins : (f : List ℕ) (x rest : List T) → Begins false f x → at code f (x ++ rest) ≡ true
  at_begins f [] rest b = absurd cc
  at_begins f (t ∷ x) rest b = b

  pub begins_left : (m : Bool) (f g : List ℕ) (x : List T) → Begins false f x → Begins m (f ++ g) x
  begins_left m f g [] b = absurd cc
  begins_left m f g (t ∷ x) b = rw (mem_append (code t) f g, b) refl

  pub begins_right : (m : Bool) (f g : List ℕ) (x : List T) → Begins m g x → Begins m (f ++ g) x
  begins_right m f g [] b = b
  begins_right m f g (t ∷ x) b = rw (mem_append (code t) f g) (or_right (mem (code t) f) (mem (code t) g) b)

  pub begins_wider : (n : Bool) (f g : List ℕ) (x : List T) → is_within f g ≡ true → Begins n f x → Begins n g x
  begins_wider n f g [] w b = b
  begins_wider n f g (t ∷ x) w b = within_mem (code t) f g w b

  -- tokens behind it
  pub begins_front : (f : List ℕ) (x y : List T) → Begins false f x → Begins false f (x ++ y)
  begins_front f [] y b = absurd cc
  begins_front f (t ∷ x) y b = b

  -- or no tokens at all
  pub begins_maybe : (f : List ℕ) (x : List T) → Begins false f x → Begins true f x
  begins_maybe f [] b = refl
  begins_maybe f (t ∷ x) b = b

  pub longer : (f : List ℕ) (x : List T) → Begins false f x → 1 ≤ length x
  longer f [] b = absurd cc
  longer f (t ∷ x) b = omega arith
