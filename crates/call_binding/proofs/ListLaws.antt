-- The first place at which a test passes, and lists that agree at each place.
use Rattle.std.proofs.Common.{◌≡◌, ℕ, zero, suc, ◌+◌, ◌-◌, ◌<◌, ◌≤◌, Bool, true, false, cond, List, [], ◌∷◌, ◌++◌, length, length-append, get_or, map, refl, sym, ap, subst, ◌∙◌, arith, add-one, ◌||◌, Option, Some, None, IfSome, ◌⊎◌, inl, inr, ⊎_elim}
use Rattle.std.specs.List.{position_from, list_any, slice_get}
use Rattle.std.proofs.lemmas.List.{length-map, get_or-map}
use Rattle.std.proofs.lemmas.List.Quantifiers.{position-Some}
use Rattle.std.proofs.lemmas.Iterator.Adapters.{position_from-zero}
use Rattle.scope_rules.specs.Nodes.{below}
use Rattle.scope_rules.proofs.Answering.{length-below, get-below}

-- the first place is one of the list, passes, and none before it does
pub record IsFirstAt {X : Type 0} (test : X → Bool) (xs : List X) (i : ℕ) (d : X) : Type 0 where
  pub within : i < length xs
  pub passes : test (get_or xs i d) ≡ true
  pub before : (k : ℕ) → k < i → test (get_or xs k d) ≡ false

pub position_first : {X : Type 0} (test : X → Bool) (xs : List X) (i : ℕ) (d : X) → position_from test 0 xs ≡ Some i → IsFirstAt test xs i d
position_first test xs i d e =
    let h = position-Some test xs i d (position_from-zero test xs ∙ e) in
    record { within = h.0; passes = h.1; before = h.2 }

-- where there is none, no place passes
pub position_none : {X : Type 0} (test : X → Bool) (n : ℕ) (xs : List X) → position_from test n xs ≡ None → (k : ℕ) (d : X) → k < length xs → test (get_or xs k d) ≡ false
position_none test n [] e k d low = absurd (omega arith)
position_none {X} test n (x ∷ xs) e k d low = by_test (λ at j less. position_none test (n + 1) xs at j d less) (test x) refl e k low
  where
    never : (i : ℕ) → Some i ≡ None → ⊥
    never i e = cc

    by_test : (position_from test (n + 1) xs ≡ None → (j : ℕ) → j < length xs → test (get_or xs j d) ≡ false) → (b : Bool) → test x ≡ b → cond b (Some n) (position_from test (n + 1) xs) ≡ None → (k : ℕ) → k < length (x ∷ xs) → test (get_or (x ∷ xs) k d) ≡ false
    by_test later true t at k low = absurd (never n at)
    by_test later false t at zero low = t
    by_test later false t at (suc k) low = later at k (omega arith)

pub position_within : {X : Type 0} (test : X → Bool) (xs : List X) (o : Option ℕ) → o ≡ position_from test 0 xs → IfSome o (λ i. i < length xs)
position_within test xs None e = tt
position_within test [] (Some i) e = absurd (never e)
  where
    never : Some i ≡ None → ⊥
    never e = cc
position_within test (x ∷ xs) (Some i) e = (position_first test (x ∷ xs) i x (sym e)).within

-- lists of one length that agree at each place are one
pub lists_agree : {X : Type 0} (xs ys : List X) (d : X) → length xs ≡ length ys → ((k : ℕ) → k < length xs → get_or xs k d ≡ get_or ys k d) → xs ≡ ys
lists_agree [] [] d long same = refl
lists_agree [] (y ∷ ys) d long same = absurd (omega arith)
lists_agree (x ∷ xs) [] d long same = absurd (omega arith)
lists_agree {X} (x ∷ xs) (y ∷ ys) d long same =
    let first : x ≡ y = same 0 (omega arith) in
    let rest : xs ≡ ys = lists_agree xs ys d (omega arith) (λ k low. same (suc k) (omega arith)) in
    ap (λ (z : X). z ∷ xs) first ∙ ap (λ (zs : List X). y ∷ zs) rest

-- a list of what f says of each number below n
pub mapped_length : {X : Type 0} (f : ℕ → X) (n : ℕ) → length (map f (below n)) ≡ n
mapped_length f n = length-map (below n) f ∙ length-below n

pub mapped_get : {X : Type 0} (f : ℕ → X) (n k : ℕ) (d : X) → k < n → get_or (map f (below n)) k d ≡ f k
mapped_get {X} f n k d low =
    let l = length-below n in
    get_or-map f (below n) k 0 d (omega arith) ∙ ap f (get-below n k low)

-- ---- a test of each element, read by its place

pub any_found : {X : Type 0} (test : X → Bool) (xs : List X) (i : ℕ) (u : X) → slice_get xs i ≡ Some u → test u ≡ true → true ≡ list_any test xs
any_found test [] i u e t = absurd (never e)
  where
    never : None ≡ Some u → ⊥
    never e = cc
any_found {X} test (x ∷ xs) zero u e t = ap (λ (b : Bool). b || list_any test xs) (sym t ∙ ap test (sym (same e)))
  where
    same : Some x ≡ Some u → x ≡ u
    same e = cc
any_found test (x ∷ xs) (suc i) u e t = by_test (test x) (any_found test xs i u e t)
  where
    by_test : (b : Bool) → true ≡ list_any test xs → true ≡ (b || list_any test xs)
    by_test true later = refl
    by_test false later = later

pub any_none : {X : Type 0} (test : X → Bool) (xs : List X) (n : ℕ) → length xs ≤ n → ((k : ℕ) (u : X) → k < n → slice_get xs k ≡ Some u → test u ≡ false) → false ≡ list_any test xs
any_none test [] n long none = refl
any_none test (x ∷ xs) zero long none = absurd (omega arith)
any_none {X} test (x ∷ xs) (suc n) long none =
    sym (ap (λ (b : Bool). b || list_any test xs) (none 0 x (omega arith) refl) ∙ sym (any_none test xs n (omega arith) (λ k u low e. none (suc k) u (omega arith) e)))

below-or-at : (k n : ℕ) → k < n + 1 → (k < n) ⊎ (k ≡ n)
below-or-at zero zero low = inr refl
below-or-at zero (suc n) low = inl (omega arith)
below-or-at (suc k) zero low = absurd (omega arith)
below-or-at (suc k) (suc n) low = ⊎_elim (λ less. inl (omega arith)) (λ same. inr (ap suc same)) (below-or-at k n (omega arith))

pub none_more : {X : Type 0} (test : X → Bool) (xs : List X) (n : ℕ) (w : X) → ((k : ℕ) (u : X) → k < n → slice_get xs k ≡ Some u → test u ≡ false) → slice_get xs n ≡ Some w → test w ≡ false
    → (k : ℕ) (u : X) → k < n + 1 → slice_get xs k ≡ Some u → test u ≡ false
none_more {X} test xs n w none at fails k u low e = by_place (below-or-at k n low)
  where
    same : (u w : X) → Some u ≡ Some w → u ≡ w
    same u w e = cc

    by_place : (k < n) ⊎ (k ≡ n) → test u ≡ false
    by_place (inl less) = none k u less e
    by_place (inr eq) = ap test (same u w (sym e ∙ ap (slice_get xs) eq ∙ at)) ∙ fails

-- ---- one list behind another

pub front_get : {X : Type 0} (xs ys : List X) (n : ℕ) → n < length xs → slice_get (xs ++ ys) n ≡ slice_get xs n
front_get [] ys n low = absurd (omega arith)
front_get (x ∷ xs) ys zero low = refl
front_get (x ∷ xs) ys (suc n) low = front_get xs ys n (omega arith)

pub back_get : {X : Type 0} (xs ys : List X) (n : ℕ) → length xs ≤ n → slice_get (xs ++ ys) n ≡ slice_get ys (n - length xs)
back_get [] ys n high = let e : n ≡ n - 0 = omega arith in ap (slice_get ys) e
back_get (x ∷ xs) ys zero high = absurd (omega arith)
back_get (x ∷ xs) ys (suc n) high = let e : n - length xs ≡ suc n - suc (length xs) = omega arith in back_get xs ys n (omega arith) ∙ ap (slice_get ys) e

pub back_short : {X : Type 0} (xs ys : List X) (n : ℕ) → length xs ≤ n → n < length (xs ++ ys) → n - length xs < length ys
back_short xs ys n high low = let all = length-append xs ys in omega arith
