-- A list that is sorted by an order which tells all elements apart is the only one with its elements.
use Rattle.std.proofs.Common.{◌≡◌, ℕ, zero, suc, ◌+◌, Bool, true, false, cond, List, [], ◌∷◌, get_or, map, refl, sym, ap, ◌∙◌, arith}
use Rattle.std.specs.List.{sum_by}
use Rattle.std.specs.Cmp.{IsTotalOrder, upto, tied_itself, alike_right}
use Rattle.std.specs.List.Sorted.{IsPermutation, IsSorted}
use Rattle.std.specs.declared.cmp.Ordering.{Ordering}
use Rattle.std.specs.declared.cmp.Ordering.TheVariants.{Less, Equal, Greater}
use Rattle.std.specs.Ordering.{is_eq, is_gt, is_lt, ordering_reverse}
use Rattle.std.proofs.lemmas.List.Sums.{sum_by-cons}
use Rattle.std.proofs.lemmas.List.Sorted.{sum_by-IsPermutation, IsPermutation-map}
use Rattle.lint_messages.specs.Sorting.{insert_by, sorted_by}

module _ {X : Type 0} (R : X → X → Ordering) (o : IsTotalOrder R) (tied : (x y : X) → R x y ≡ Equal → x ≡ y) where
  -- x is above none of these
  abbrev IsLeast : X → List X → Type 0
  IsLeast x [] = Unit {0}
  IsLeast x (y ∷ ys) = (is_gt (R x y) ≡ false) × IsLeast x ys

  -- each is above none of those behind it
  abbrev Rises : List X → Type 0
  Rises [] = Unit {0}
  Rises (x ∷ xs) = IsLeast x xs × Rises xs

  least_below : (x y : X) (ys : List X) → is_gt (R x y) ≡ false → IsLeast y ys → IsLeast x ys
  least_below x y [] le least = tt
  least_below x y (z ∷ zs) le least = (upto o x y z le least.0, least_below x y zs le least.1)

  turned : (r : Ordering) → is_gt r ≡ true → is_gt (ordering_reverse r) ≡ false
  turned Less e = cc
  turned Equal e = cc
  turned Greater e = refl

  behind : (x y : X) → is_gt (R x y) ≡ true → is_gt (R y x) ≡ false
  behind x y e = ap is_gt (o.antisymm y x) ∙ turned (R x y) e

  least_insert : (y x : X) (ys : List X) → is_gt (R y x) ≡ false → IsLeast y ys → IsLeast y (insert_by R x ys)
  least_insert y x [] le least = (le, tt)
  least_insert y x (z ∷ zs) le least = by_test (is_gt (R x z)) (least_insert y x zs le least.1)
    where
      by_test : (b : Bool) → IsLeast y (insert_by R x zs) → IsLeast y (cond b (z ∷ insert_by R x zs) (x ∷ z ∷ zs))
      by_test true rest = (least.0, rest)
      by_test false rest = (le, least)

  rises_insert : (x : X) (ys : List X) → Rises ys → Rises (insert_by R x ys)
  rises_insert x [] up = (tt, tt)
  rises_insert x (y ∷ ys) up = by_test (is_gt (R x y)) refl (rises_insert x ys up.1)
    where
      by_test : (b : Bool) → is_gt (R x y) ≡ b → Rises (insert_by R x ys) → Rises (cond b (y ∷ insert_by R x ys) (x ∷ y ∷ ys))
      by_test true e rest = (least_insert y x ys (behind x y e) up.0, rest)
      by_test false e rest = ((e, least_below x y ys e up.0), up)

  rises_sorted : (xs : List X) → Rises (sorted_by R xs)
  rises_sorted [] = tt
  rises_sorted (x ∷ xs) = rises_insert x (sorted_by R xs) (rises_sorted xs)

  abbrev one_if : Bool → ℕ
  one_if true = 1
  one_if false = 0

  -- 1 where the elements are tied
  abbrev same : X → X → ℕ
  same a x = one_if (is_eq (R a x))

  abbrev times : X → List X → ℕ
  times a xs = sum_by (same a) xs

  times_insert : (a x : X) (ys : List X) → times a (insert_by R x ys) ≡ same a x + times a ys
  times_insert a x [] = sum_by-cons (same a) x []
  times_insert a x (y ∷ ys) = by_test (is_gt (R x y)) (times_insert a x ys)
    where
      by_test : (b : Bool) → times a (insert_by R x ys) ≡ same a x + times a ys → times a (cond b (y ∷ insert_by R x ys) (x ∷ y ∷ ys)) ≡ same a x + times a (y ∷ ys)
      by_test true rest = omega (arith, sum_by-cons (same a) y (insert_by R x ys), rest, sum_by-cons (same a) y ys)
      by_test false rest = sum_by-cons (same a) x (y ∷ ys)

  times_sorted : (a : X) (xs : List X) → times a (sorted_by R xs) ≡ times a xs
  times_sorted a [] = refl
  times_sorted a (x ∷ xs) = omega (arith, times_insert a x (sorted_by R xs), times_sorted a xs, sum_by-cons (same a) x xs)

  same_itself : (x : X) → same x x ≡ 1
  same_itself x = ap (λ r. one_if (is_eq r)) (tied_itself o x)

  -- what is below all of these is none of them
  none_by : (x y z : X) (r : Ordering) → R x y ≡ Less → is_gt (R y z) ≡ false → R x z ≡ r → is_eq r ≡ true → ⊥
  none_by x y z Less lt le e t = cc
  none_by x y z Greater lt le e t = cc
  none_by x y z Equal lt le e t =
      let back : R y x ≡ Greater = o.antisymm y x ∙ ap ordering_reverse lt in
      let there : R y x ≡ R y z = alike_right o x z y e in
      let gt : is_gt (R y z) ≡ true = ap is_gt (sym there ∙ back) in
      cc

  not_eq : (b : Bool) → (b ≡ true → ⊥) → one_if b ≡ 0
  not_eq true never = absurd (never refl)
  not_eq false never = refl

  none_same : (x y z : X) → R x y ≡ Less → is_gt (R y z) ≡ false → same x z ≡ 0
  none_same x y z lt le = not_eq (is_eq (R x z)) (none_by x y z (R x z) lt le refl)

  none_times : (x y : X) (ys : List X) → R x y ≡ Less → IsLeast y ys → times x ys ≡ 0
  none_times x y [] lt least = refl
  none_times x y (z ∷ zs) lt least = omega (arith, sum_by-cons (same x) z zs, none_same x y z lt least.0, none_times x y zs lt least.1)

  level : (y : X) → is_gt (R y y) ≡ false
  level y = ap is_gt (tied_itself o y)

  -- the first of a rising list is in no rising list that begins above it
  not_below : (x y : X) (xs ys : List X) → IsLeast y ys → times x (x ∷ xs) ≡ times x (y ∷ ys) → R x y ≡ Less → ⊥
  not_below x y xs ys least e lt =
      absurd (omega (arith, e, sum_by-cons (same x) x xs, same_itself x, sum_by-cons (same x) y ys, none_same x y y lt (level y), none_times x y ys lt least))

  first_same : (x y : X) (xs ys : List X) (r : Ordering) → R x y ≡ r → IsLeast x xs → IsLeast y ys → ((a : X) → times a (x ∷ xs) ≡ times a (y ∷ ys)) → x ≡ y
  first_same x y xs ys Less e up vp counts = absurd (not_below x y xs ys vp (counts x) e)
  first_same x y xs ys Equal e up vp counts = tied x y e
  first_same x y xs ys Greater e up vp counts =
      absurd (not_below y x ys xs up (sym (counts y)) (o.antisymm y x ∙ ap ordering_reverse e))

  rest_same : (x y : X) (xs ys : List X) → x ≡ y → (a : X) → times a (x ∷ xs) ≡ times a (y ∷ ys) → times a xs ≡ times a ys
  rest_same x y xs ys e a count =
      let head : same a x ≡ same a y = ap (same a) e in
      omega (arith, count, head, sum_by-cons (same a) x xs, sum_by-cons (same a) y ys)

  only_one : (xs ys : List X) → Rises xs → Rises ys → ((a : X) → times a xs ≡ times a ys) → xs ≡ ys
  only_one [] [] up vp counts = refl
  only_one [] (y ∷ ys) up vp counts = absurd (omega (arith, counts y, sum_by-cons (same y) y ys, same_itself y))
  only_one (x ∷ xs) [] up vp counts = absurd (omega (arith, counts x, sum_by-cons (same x) x xs, same_itself x))
  only_one (x ∷ xs) (y ∷ ys) up vp counts =
      let first : x ≡ y = first_same x y xs ys (R x y) refl up.0 vp.0 counts in
      let rest : xs ≡ ys = only_one xs ys up.1 vp.1 (λ a. rest_same x y xs ys first a (counts a)) in
      cc

  not_lt : (r : Ordering) → is_lt r ≡ false → is_gt (ordering_reverse r) ≡ false
  not_lt Less e = cc
  not_lt Equal e = refl
  not_lt Greater e = refl

  -- what a sort by f of the elements leaves rises
  later : {P : Type 0} (f : P → X) (x y : P) (ys : List P) (k : ℕ) (d : P) → is_lt (R (f (get_or (x ∷ y ∷ ys) (suc k + 1) d)) (f (get_or (x ∷ y ∷ ys) (suc k) d))) ≡ false → is_lt (R (f (get_or (y ∷ ys) (k + 1) d)) (f (get_or (y ∷ ys) k d))) ≡ false
  later f x y ys k d up = let e : suc k + 1 ≡ suc (k + 1) = omega arith in rw e at up

  rises : {P : Type 0} (f : P → X) (qs : List P) → IsSorted (λ p q. R (f p) (f q)) qs → Rises (map f qs)
  rises f [] up = tt
  rises f (x ∷ []) up = (tt, tt)
  rises f (x ∷ y ∷ ys) up =
      let rest : Rises (map f (y ∷ ys)) = rises f (y ∷ ys) (λ k d low high. later f x y ys k d (up (suc k) d (omega arith) (omega arith))) in
      let first : is_gt (R (f x) (f y)) ≡ false = ap is_gt (o.antisymm (f x) (f y)) ∙ not_lt (R (f y) (f x)) (up 0 x (omega arith) (omega arith)) in
      ((first, least_below (f x) (f y) (map f ys) first rest.0), rest)

  -- a permutation that is sorted by f of the elements gives the sorted list
  pub sorted_is : {P : Type 0} (f : P → X) (ps qs : List P) → IsPermutation ps qs → IsSorted (λ p q. R (f p) (f q)) qs → map f qs ≡ sorted_by R (map f ps)
  sorted_is f ps qs moved up =
      only_one (map f qs) (sorted_by R (map f ps)) (rises f qs up) (rises_sorted (map f ps))
      (λ a. sum_by-IsPermutation (same a) (map f ps) (map f qs) (IsPermutation-map f ps qs moved) ∙ sym (times_sorted a (map f ps)))

  not_gt : (r : Ordering) → is_gt r ≡ false → is_lt (ordering_reverse r) ≡ false
  not_gt Less e = refl
  not_gt Equal e = refl
  not_gt Greater e = cc

  adjacent : (xs : List X) → Rises xs → IsSorted R xs
  adjacent [] up k d low high = absurd (omega arith)
  adjacent (x ∷ []) up k d low high = absurd (omega arith)
  adjacent (x ∷ y ∷ ys) up zero d low high = ap is_lt (o.antisymm y x) ∙ not_gt (R x y) up.0.0
  adjacent (x ∷ y ∷ ys) up (suc k) d low high =
      let rest : is_lt (R (get_or (y ∷ ys) (k + 1) d) (get_or (y ∷ ys) k d)) ≡ false = adjacent (y ∷ ys) up.1 k d (omega arith) (omega arith) in
      let e : suc k + 1 ≡ suc (k + 1) = omega arith in rw e rest

  -- the sorted list is sorted
  pub is_sorted : (xs : List X) → IsSorted R (sorted_by R xs)
  is_sorted xs = adjacent (sorted_by R xs) (rises_sorted xs)
