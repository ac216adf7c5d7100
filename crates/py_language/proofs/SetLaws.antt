-- Sets of codes: apart, within, one behind another.
use Rattle.std.proofs.Common.{◌≡◌, ℕ, Bool, true, false, cond, ◌==◌, ◌||◌, List, [], ◌∷◌, ◌++◌, refl, sym, ◌∙◌, arith}
use Rattle.py_language.specs.Sets.{mem, at, are_apart, is_within}

pub cond_true : (b c : Bool) → cond b c false ≡ true → (b ≡ true) × (c ≡ true)
cond_true true c e = (refl, e)
cond_true false c e = absurd cc

pub cond_not : (b c : Bool) → cond b false c ≡ true → (b ≡ false) × (c ≡ true)
cond_not true c e = absurd cc
cond_not false c e = (refl, e)

pub or_true : (b c d : Bool) → (b || c) ≡ true → (b ≡ true → d ≡ true) → (c ≡ true → d ≡ true) → d ≡ true
or_true true c d e f g = f refl
or_true false c d e f g = g e

pub or_false : (b c : Bool) → (b || c) ≡ false → (b ≡ false) × (c ≡ false)
or_false true c e = absurd cc
or_false false c e = (refl, e)

pub or_right : (b c : Bool) → c ≡ true → (b || c) ≡ true
or_right true c e = refl
or_right false c e = e

pub mem_append : (m : ℕ) (xs ys : List ℕ) → mem m (xs ++ ys) ≡ (mem m xs || mem m ys)
mem_append m [] ys = refl
mem_append m (x ∷ xs) ys = go (m == x) (mem_append m xs ys)
  where
    go : (b : Bool) → mem m (xs ++ ys) ≡ (mem m xs || mem m ys) → (b || mem m (xs ++ ys)) ≡ ((b || mem m xs) || mem m ys)
    go true e = refl
    go false e = e

pub eq_mem : (m x : ℕ) (ys : List ℕ) → (m == x) ≡ true → mem m ys ≡ mem x ys
eq_mem m x ys e = grind arith

pub apart_mem : (m : ℕ) (xs ys : List ℕ) → are_apart xs ys ≡ true → mem m ys ≡ true → mem m xs ≡ false
apart_mem m [] ys e h = refl
apart_mem m (x ∷ xs) ys e h =
    let (absent, others) = cond_not (mem x ys) (are_apart xs ys) e in
    go (m == x) (λ same. cc (eq_mem m x ys same)) (apart_mem m xs ys others h)
  where
    go : (b : Bool) → (b ≡ true → ⊥) → mem m xs ≡ false → (b || mem m xs) ≡ false
    go true differ r = absurd (differ refl)
    go false differ r = r

pub within_mem : (m : ℕ) (xs ys : List ℕ) → is_within xs ys ≡ true → mem m xs ≡ true → mem m ys ≡ true
within_mem m [] ys e h = absurd cc
within_mem m (x ∷ xs) ys e h =
    let (here, others) = cond_true (mem x ys) (is_within xs ys) e in
    or_true (m == x) (mem m xs) (mem m ys) h (λ same. eq_mem m x ys same ∙ here) (λ r. within_mem m xs ys others r)

pub apart_nil : (f : List ℕ) → are_apart f [] ≡ true
apart_nil [] = refl
apart_nil (x ∷ f) = apart_nil f

pub at_append : {T : Type 0} (code : T → ℕ) (xs ys : List ℕ) (ts : List T) → at code (xs ++ ys) ts ≡ false → (at code xs ts ≡ false) × (at code ys ts ≡ false)
at_append code xs ys [] e = (refl, refl)
at_append code xs ys (t ∷ ts) e = or_false (mem (code t) xs) (mem (code t) ys) (sym (mem_append (code t) xs ys) ∙ e)

pub not_true : (b : Bool) → (b ≡ true → ⊥) → b ≡ false
not_true true h = absurd (h refl)
not_true false h = refl

pub at_within : {T : Type 0} (code : T → ℕ) (xs ys : List ℕ) (ts : List T) → is_within xs ys ≡ true → at code ys ts ≡ false → at code xs ts ≡ false
at_within code xs ys [] w e = refl
at_within code xs ys (t ∷ ts) w e = not_true (mem (code t) xs) (λ h. cc (within_mem (code t) xs ys w h))
