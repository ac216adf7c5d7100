-- How many brackets are open behind parts of a list, and at most on the way through them.
use Rattle.std.proofs.Common.{◌≡◌, ℕ, zero, suc, pred, ◌+◌, max, Bool, true, false, cond, List, [], ◌∷◌, ◌++◌, refl, sym, ap, ◌∙◌, arith}
use Rattle.py_language.specs.Sets.{mem, are_apart, is_within}
use Rattle.py_language.specs.Brackets.{turned, level, peak, IsEven}
use Rattle.py_language.proofs.SetLaws.{apart_mem, within_mem}

module _ {T : Type 0} (code : T → ℕ) (opens closes : List ℕ) where
  -- ---- parts

  pub level_append : (d : ℕ) (x y : List T) → level code opens closes d (x ++ y) ≡ level code opens closes (level code opens closes d x) y
  level_append d [] y = refl
  level_append d (t ∷ x) y = level_append (turned opens closes (code t) d) x y

  -- the most in two parts is the most in one of them
  pub peak_append : (d : ℕ) (x y : List T) → peak code opens closes d (x ++ y) ≡ max (peak code opens closes d x) (peak code opens closes (level code opens closes d x) y)
  peak_append d [] y = at_least y d
    where
      at_least : (y : List T) (d : ℕ) → peak code opens closes d y ≡ max d (peak code opens closes d y)
      at_least [] d = omega arith
      at_least (t ∷ y) d = omega arith
  peak_append d (t ∷ x) y = let e = peak_append (turned opens closes (code t) d) x y in omega (arith, e)

  -- ---- even lists

  pub even_nothing : IsEven code opens closes []
  even_nothing d = refl

  pub even_append : (x y : List T) → IsEven code opens closes x → IsEven code opens closes y → IsEven code opens closes (x ++ y)
  even_append x y h g d = level_append d x y ∙ ap (λ (e : ℕ). level code opens closes e y) (h d) ∙ g d

  -- a token that neither opens nor closes
  pub even_token : (set : List ℕ) (t : T) → mem (code t) set ≡ true → are_apart opens set ≡ true → are_apart closes set ≡ true → IsEven code opens closes (t ∷ [])
  even_token set t h no_open no_close d =
      let e1 = apart_mem (code t) opens set no_open h in let e2 = apart_mem (code t) closes set no_close h in rw (e1, e2) refl

  pub turned_open : (set : List ℕ) (t : T) → mem (code t) set ≡ true → is_within set opens ≡ true → (d : ℕ) → turned opens closes (code t) d ≡ suc d
  turned_open set t h w d = let e = within_mem (code t) set opens w h in rw e refl

  pub turned_close : (set : List ℕ) (t : T) → mem (code t) set ≡ true → is_within set closes ≡ true → are_apart opens set ≡ true → (d : ℕ) → turned opens closes (code t) (suc d) ≡ d
  turned_close set t h w sep d =
      let e1 = apart_mem (code t) opens set sep h in let e2 = within_mem (code t) set closes w h in rw (e1, e2) refl

  -- an even list between a token that opens and one that closes
  pub even_bracketed : (opening closing : List ℕ) (t : T) (x : List T) (u : T) → mem (code t) opening ≡ true → is_within opening opens ≡ true → mem (code u) closing ≡ true → is_within closing closes ≡ true
      → are_apart opens closing ≡ true → IsEven code opens closes x → IsEven code opens closes (t ∷ (x ++ u ∷ []))
  even_bracketed opening closing t x u ht wt hu wu sep h d =
      let e1 = turned_open opening t ht wt d in
      let e2 = h (suc d) in
      let e3 = turned_close closing u hu wu sep d in
      ap (λ (e : ℕ). level code opens closes e (x ++ u ∷ [])) e1 ∙ level_append (suc d) x (u ∷ []) ∙ ap (λ (e : ℕ). level code opens closes e (u ∷ [])) e2 ∙ e3

  -- ---- the most that are open in an even list

  -- one more is open at each place where one more is open before
  raised : (x : List T) (d : ℕ) → level code opens closes (suc d) x ≡ suc (level code opens closes d x) → peak code opens closes (suc d) x ≡ suc (peak code opens closes d x)
  raised [] d h = refl
  raised (t ∷ x) d h = go (λ k. raised x k) (mem (code t) opens) (mem (code t) closes) d h
    where
      go : ((k : ℕ) → level code opens closes (suc k) x ≡ suc (level code opens closes k x) → peak code opens closes (suc k) x ≡ suc (peak code opens closes k x))
          → (b c : Bool) (d : ℕ) → level code opens closes (cond b (suc (suc d)) (cond c d (suc d))) x ≡ suc (level code opens closes (cond b (suc d) (cond c (pred d) d)) x)
          → max (suc d) (peak code opens closes (cond b (suc (suc d)) (cond c d (suc d))) x) ≡ suc (max d (peak code opens closes (cond b (suc d) (cond c (pred d) d)) x))
      go more true c d h = let e = more (suc d) h in omega (arith, e)
      go more false true zero h = absurd (omega (arith, h))
      go more false true (suc d) h = let e = more d h in omega (arith, e)
      go more false false d h = let e = more d h in omega (arith, e)

  pub peak_suc : (x : List T) → IsEven code opens closes x → (d : ℕ) → peak code opens closes (suc d) x ≡ suc (peak code opens closes d x)
  peak_suc x h d = raised x d (h (suc d) ∙ sym (ap suc (h d)))

  -- as many more are open at the most as are open before
  pub peak_even : (x : List T) → IsEven code opens closes x → (d : ℕ) → peak code opens closes d x ≡ d + peak code opens closes 0 x
  peak_even x h zero = omega arith
  peak_even x h (suc d) = let e1 = peak_suc x h d in let e2 = peak_even x h d in omega (arith, e1, e2)

  -- the most in two even parts
  pub peak_both : (x y : List T) → IsEven code opens closes x → peak code opens closes 0 (x ++ y) ≡ max (peak code opens closes 0 x) (peak code opens closes 0 y)
  peak_both x y h = let e = h 0 in peak_append 0 x y ∙ ap (λ (d : ℕ). max (peak code opens closes 0 x) (peak code opens closes d y)) e

  -- between brackets one more than inside
  pub peak_bracketed : (opening closing : List ℕ) (t : T) (x : List T) (u : T) → mem (code t) opening ≡ true → is_within opening opens ≡ true → mem (code u) closing ≡ true → is_within closing closes ≡ true
      → are_apart opens closing ≡ true → IsEven code opens closes x → (d : ℕ) → peak code opens closes d (t ∷ (x ++ u ∷ [])) ≡ suc (peak code opens closes d x)
  peak_bracketed opening closing t x u ht wt hu wu sep h d =
      let e1 = turned_open opening t ht wt d in
      let e2 = h (suc d) in
      let e3 = turned_close closing u hu wu sep d in
      let e4 = peak_suc x h d in
      let e5 = peak_even x h d in
      let s1 = ap (λ (e : ℕ). peak code opens closes e (x ++ u ∷ [])) e1 in
      let s2 = peak_append (suc d) x (u ∷ []) in
      let s3 = ap (λ (e : ℕ). peak code opens closes e (u ∷ [])) e2 in
      omega (arith, s1, s2, s3, e3, e4, e5)
