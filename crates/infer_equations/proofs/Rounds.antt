-- The rounds rise, stand still after count * (limit + 2) of them, solve the equations, and lie within every solution.
use Rattle.std.proofs.Common.{◌≡◌, ℕ, zero, suc, ◌+◌, ◌*◌, ◌<◌, ◌≤◌, Bool, true, false, cond, ◌⊎◌, inl, inr, refl, sym, ◌∙◌, ap, subst, arith}
use Rattle.std.specs.Prelude.{nat_lt}
use Rattle.std.proofs.lemmas.Bool.Decides.{nat_tests}
use Rattle.infer_sets.specs.Sets.{Set, none, Below, Fits, rank}
use Rattle.infer_sets.proofs.SetOrder.{below-refl, below-trans, below-none, fits-none, rank-le, rank-most}
use Rattle.infer_equations.specs.Assignment.{Assignment, Within, AllFit}
use Rattle.infer_equations.specs.Least.{round, least, IsLeastSolution}

pub below-eq : (s t : Set) → s ≡ t → Below s t
below-eq s t e = subst (λ x. Below s x) e (below-refl s)

eq_or_lt_by : (v m : ℕ) → v < suc m → (b : Bool) → nat_lt v m ≡ b → (v ≡ m) ⊎ (v < m)
eq_or_lt_by v m h true e = inr (grind (arith, nat_tests))
eq_or_lt_by v m h false e = inl (grind (arith, nat_tests))

eq_or_lt : (v m : ℕ) → v < suc m → (v ≡ m) ⊎ (v < m)
eq_or_lt v m h = eq_or_lt_by v m h (nat_lt v m) refl

zero_of : (n limit : ℕ) → n * (limit + 2) ≤ n * (limit + 1) → n ≡ 0
zero_of n limit h = omega arith

abbrev pub Monotone : ℕ → (ℕ → Assignment → Set) → Type 0
Monotone count right = (v : ℕ) (a b : Assignment) → v < count → Within a b → Below (right v a) (right v b)

abbrev pub Limited : ℕ → ℕ → (ℕ → Assignment → Set) → Type 0
Limited count limit right = (v : ℕ) (a : Assignment) → v < count → AllFit limit a → Fits limit (right v a)

module _ (count limit : ℕ) (right : ℕ → Assignment → Set) (mono : Monotone count right) (fits : Limited count limit right) where
  -- the right side below the count, and else the empty set
  guarded : (b : Bool) (v : ℕ) → nat_lt v count ≡ b → (a c : Assignment) → Within a c → Below (cond b (right v a) none) (cond b (right v c) none)
  guarded true v e a c w = mono v a c (grind (arith, nat_tests)) w
  guarded false v e a c w = below-refl none

  guarded_fits : (b : Bool) (v : ℕ) → nat_lt v count ≡ b → (a : Assignment) → AllFit limit a → Fits limit (cond b (right v a) none)
  guarded_fits true v e a f = fits v a (grind (arith, nat_tests)) f
  guarded_fits false v e a f = fits-none limit

  pub round-fits : (i : ℕ) → AllFit limit (round count right i)
  unfolding round
  round-fits zero = record { at = λ v. fits-none limit }
  round-fits (suc i) = record { at = λ v. guarded_fits (nat_lt v count) v refl (round count right i) (round-fits i) }

  pub round-rises : (i : ℕ) → Within (round count right i) (round count right (suc i))
  unfolding round
  round-rises zero = record { at = λ v. below-none _ }
  round-rises (suc i) = record { at = λ v. guarded (nat_lt v count) v refl (round count right i) (round count right (suc i)) (round-rises i) }

  guarded_within : (b : Bool) (v : ℕ) → nat_lt v count ≡ b → (a q : Assignment) → Within a q → ((v : ℕ) → v < count → Below (right v q) (q v)) → Below (cond b (right v a) none) (q v)
  guarded_within true v e a q w solves = below-trans _ _ _ (mono v a q (grind (arith, nat_tests)) w) (solves v (grind (arith, nat_tests)))
  guarded_within false v e a q w solves = below-none (q v)

  -- each round lies within each assignment that the right sides do not exceed
  pub round-within : (q : Assignment) → ((v : ℕ) → v < count → Below (right v q) (q v)) → (i : ℕ) → Within (round count right i) q
  unfolding round
  round-within q solves zero = record { at = λ v. below-none (q v) }
  round-within q solves (suc i) = record { at = λ v. guarded_within (nat_lt v count) v refl (round count right i) q (round-within q solves i) solves }

  -- the ranks of the first m variables, added up
  height : ℕ → ℕ → ℕ
  height zero i = 0
  height (suc m) i = rank limit (round count right i m) + height m i

  rank_step : (i v : ℕ) → (rank limit (round count right i v) ≤ rank limit (round count right (suc i) v)) × (rank limit (round count right (suc i) v) ≤ rank limit (round count right i v) → round count right i v ≡ round count right (suc i) v)
  rank_step i v = rank-le limit _ _ ((round-rises i).at v) ((round-fits i).at v) ((round-fits (suc i)).at v)

  height-rises : (m i : ℕ) → height m i ≤ height m (suc i)
  unfolding height
  height-rises zero i = omega arith
  height-rises (suc m) i = let a = (rank_step i m).0 in let b = height-rises m i in omega arith

  height-most : (m i : ℕ) → height m i ≤ m * (limit + 1)
  unfolding height
  height-most zero i = omega arith
  height-most (suc m) i = let a = rank-most limit _ ((round-fits i).at m) in let b = height-most m i in omega arith

  abbrev Still : ℕ → Type 0
  Still i = (v : ℕ) → round count right i v ≡ round count right (suc i) v

  still_below : (m i : ℕ) → height m (suc i) ≤ height m i → (v : ℕ) → v < m → round count right i v ≡ round count right (suc i) v
  unfolding height
  still_below zero i h v lt = absurd (omega arith)
  still_below (suc m) i h v lt =
      let a = (rank_step i m).0 in
      let b = height-rises m i in
      elim (eq_or_lt v m (omega arith)) [
        | inl is ↦ subst (λ x. round count right i x ≡ round count right (suc i) x) (sym is) ((rank_step i m).1 (omega arith))
        | inr less ↦ still_below m i (omega arith) v less
      ]

  congruent : (b : Bool) (v : ℕ) (a c : Assignment) → ((w : ℕ) → a w ≡ c w) → cond b (right v a) none ≡ cond b (right v c) none
  congruent b v a c same = let e : ◌≡◌ {A = Assignment} a c = λ i w. same w i in ap (λ x. cond b (right v x) none) e

  -- what stands still once stands still for good
  still_more : (i : ℕ) → Still i → Still (suc i)
  unfolding round
  still_more i s v = congruent (nat_lt v count) v (round count right i) (round count right (suc i)) s

  high_out : (b : Bool) (v i : ℕ) → nat_lt v count ≡ b → (v < count → round count right i v ≡ round count right (suc i) v) → round count right i v ≡ round count right (suc i) v
  unfolding round
  high_out true v i e h = h (grind (arith, nat_tests))
  high_out false v zero e h = ap (λ b. cond b (right v (round count right zero)) none) (sym e)
  high_out false v (suc i) e h = ap (λ b. cond b (right v (round count right i)) none) e ∙ ap (λ b. cond b (right v (round count right (suc i))) none) (sym e)

  climbs_by : (i : ℕ) → i ≤ height count i → (b : Bool) → nat_lt (height count i) (height count (suc i)) ≡ b → (suc i ≤ height count (suc i)) ⊎ Still (suc i)
  climbs_by i up true e = inl (grind (arith, nat_tests))
  climbs_by i up false e = inr (still_more i (λ v. high_out (nat_lt v count) v i refl (still_below count i (grind (arith, nat_tests)) v)))

  -- as many rounds as the height, or no more change
  climbs : (i : ℕ) → (i ≤ height count i) ⊎ Still i
  climbs zero = inl (omega arith)
  climbs (suc i) = elim (climbs i) [
    | inl up ↦ climbs_by i up (nat_lt (height count i) (height count (suc i))) refl
    | inr s ↦ inr (still_more i s)
  ]

  pub least-still : Still (count * (limit + 2))
  least-still = elim (climbs (count * (limit + 2))) [
    | inl up ↦ let most = height-most count (count * (limit + 2)) in
        let z : count ≡ 0 = zero_of count limit (omega arith) in
        λ v. high_out (nat_lt v count) v _ refl (λ lt. absurd (omega arith))
    | inr s ↦ s
  ]

  solved : (b : Bool) (v : ℕ) → nat_lt v count ≡ b → v < count → (x : Set) → cond b x none ≡ x
  solved true v e h x = refl
  solved false v e h x = absurd (grind (arith, nat_tests))

  -- the least solution solves the equations
  pub least-solves : (v : ℕ) → v < count → right v (least count limit right) ≡ least count limit right v
  unfolding least round
  least-solves v h = sym (least-still v ∙ solved (nat_lt v count) v refl h _)

  -- it lies within every solution, and within what the right sides do not exceed
  pub least-within : (q : Assignment) → ((v : ℕ) → v < count → Below (right v q) (q v)) → Within (least count limit right) q
  unfolding least
  least-within q solves = round-within q solves _

  pub least-fits : AllFit limit (least count limit right)
  unfolding least
  least-fits = round-fits _

  pub least_is_solution : IsLeastSolution count limit right (least count limit right)
  least_is_solution = record {
    solves = record { at = least-solves };
    within_solutions = λ q s. least-within q (λ v h. below-eq _ _ (s.at v h));
    within_closed = λ q c. least-within q c.at;
    fits = least-fits;
  }
