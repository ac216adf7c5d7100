-- Costs of variables that are apart add up, and what a list reaches goes on.
use Rattle.std.proofs.Common.{◌≡◌, ℕ, ◌+◌, ◌*◌, ◌≤◌, Bool, true, false, not, ◌&&◌, ◌||◌, List, [], ◌∷◌, inl, inr, refl, sym, ap, subst, arith}
use Rattle.std.specs.Prelude.{Option, Some, None, IsSome, is_some}
use Rattle.std.specs.List.{filter}
use Rattle.std.specs.FinMap.{get}
use Rattle.infer_sets.specs.Sets.{Set}
use Rattle.infer_equations.specs.Assignment.{Assignment, Map}
use Rattle.infer_lazy.specs.Reach.{Reach, start, on, IsCheap}
use Rattle.infer_lazy.proofs.Members.{cons-cases, nothing-in}
use Rattle.infer_core.specs.Demand.{Gained}
use Rattle.infer_core.specs.Row.{AreReached, Keeps}
use Rattle.infer_core.specs.Laws.{ReachGoesOn, CostsAddUp}
use Rattle.infer_core.proofs.Filtered.{left, parts}

flip : (b : Bool) → b ≡ false → not b ≡ true
flip true e = absurd (let h = e in cc)
flip false e = refl

times_sum : (k a b c : ℕ) → a + b ≡ c → k * a + k * b ≡ k * c
times_sum k a b c h = grind arith

sum-costs : (k x y z v w n p q m : ℕ) → v + w ≡ n → p + q ≡ m → y ≤ x + (v + k * p) → z ≤ y + (w + k * q) → z ≤ x + (n + k * m)
sum-costs k x y z v w n p q m a b c d = let t = times_sum k p q m b in omega (arith, a, c, d, t)

module _ (limit : ℕ) (low : Assignment) (reads : ℕ → Assignment → List ℕ) where
  -- the cost of M and that of N, which are apart by a test, are that of all that holds both
  pub cheap-add : (M N P : ℕ → Type 0) (x y z : ℕ) (m : ℕ → Bool) → ((v : ℕ) → M v → m v ≡ true) → ((v : ℕ) → N v → m v ≡ false) → ((v : ℕ) → M v → P v) → ((v : ℕ) → N v → P v)
      → IsCheap limit low reads M x y → IsCheap limit low reads N y z → IsCheap limit low reads P x z
  cheap-add M N P x y z m in_m off_m mp np c d vars pairs vs ps =
      let one = λ (q : ℕ × ℕ). m q.0 in
      sum-costs (limit + 2) x y z _ _ _ _ _ _ (parts m vars) (parts one pairs)
      (c (filter m vars) (filter one pairs)
      (λ v h. left m v vars (in_m v h) (vs v (mp v h)))
      (λ v w h k dep. left one (v, w) pairs (in_m v h) (ps v w (mp v h) (mp w k) dep)))
      (d (filter (λ q. not (m q)) vars) (filter (λ q. not (one q)) pairs)
      (λ v h. left (λ q. not (m q)) v vars (flip (m v) (off_m v h)) (vs v (np v h)))
      (λ v w h k dep. left (λ q. not (one q)) (v, w) pairs (flip (m v) (off_m v h)) (ps v w (np v h) (np w k) dep)))

  -- no step costs nothing
  pub cheap-none : (N : ℕ → Type 0) (x : ℕ) → IsCheap limit low reads N x x
  cheap-none N x vars pairs vs ps = omega arith

  -- what is cheap for some variables is so for more
  pub cheap-wider : (N P : ℕ → Type 0) (x y : ℕ) → ((v : ℕ) → N v → P v) → IsCheap limit low reads N x y → IsCheap limit low reads P x y
  cheap-wider N P x y np c vars pairs vs ps = c vars pairs (λ v h. vs v (np v h)) (λ v w h k dep. ps v w (np v h) (np w k) dep)

module _ (low : Assignment) (reads : ℕ → Assignment → List ℕ) where
  pub reach-on : (starts vars : List ℕ) (w : ℕ) → AreReached low reads starts vars → Reach low reads vars w → Reach low reads starts w
  reach-on starts vars w a (start c) = a.at w c
  reach-on starts vars w a (on r d) = on (reach-on starts vars _ a r) d

  pub reached-member : (starts : List ℕ) (v : ℕ) → Reach low reads starts v → AreReached low reads starts (v ∷ [])
  reached-member starts v h = record { at = λ u c. elim (cons-cases v [] u c) [ inl is ↦ subst (λ q. Reach low reads starts q) is h | inr d ↦ absurd (nothing-in u d) ] }

-- whether the table gained the variable
abbrev pub has_gained : Map → Map → ℕ → Bool
has_gained a b v = not (is_some (get a v)) && is_some (get b v)

gained_by : (o p : Option Set) → o ≡ None → IsSome p → (not (is_some o) && is_some p) ≡ true
gained_by None p e h = h
gained_by (Some s) p e h = absurd (let f = e in cc)

pub gained-is : (a b : Map) (v : ℕ) → Gained a b v → has_gained a b v ≡ true
gained-is a b v g = gained_by (get a v) (get b v) g.0 g.1

lost_by : (o p : Option Set) → p ≡ None → (not (is_some o) && is_some p) ≡ false
lost_by None p e = ap is_some e
lost_by (Some s) p e = refl

-- what the table has not it did not gain
pub gained-not : (a b : Map) (v : ℕ) → get b v ≡ None → has_gained a b v ≡ false
gained-not a b v e = lost_by (get a v) (get b v) e

some_from : (o : Option Set) (P : Type 0) → IsSome o → ((s : Set) → o ≡ Some s → P) → P
some_from None P h f = absurd (let g = h in cc)
some_from (Some s) P h f = f s refl

none_from : (o : Option Set) → ((s : Set) → o ≡ Some s → ⊥) → o ≡ None
none_from None f = refl
none_from (Some s) f = absurd (f s refl)

some_is : (o : Option Set) (s : Set) → o ≡ Some s → IsSome o
some_is o s e = subst IsSome (sym e) refl

pub kept-some : (a b : Map) (v : ℕ) → Keeps a b → IsSome (get a v) → IsSome (get b v)
kept-some a b v k h = some_from (get a v) (IsSome (get b v)) h (λ s e. some_is (get b v) s (k.at v s e))

some_none : (o : Option Set) (s : Set) → o ≡ None → o ≡ Some s → ⊥
some_none o s e f = cc

pub kept-none : (a b : Map) (v : ℕ) → Keeps a b → get b v ≡ None → get a v ≡ None
kept-none a b v k e = none_from (get a v) (λ s f. some_none (get b v) s e (k.at v s f))

pub keeps-then : (a b c : Map) → Keeps a b → Keeps b c → Keeps a c
keeps-then a b c k l = record { at = λ v s e. l.at v s (k.at v s e) }

pub gained-first : (a b c : Map) (v : ℕ) → Keeps b c → Gained a b v → Gained a c v
gained-first a b c v k g = (g.0, kept-some b c v k g.1)

pub gained-second : (a b c : Map) (v : ℕ) → Keeps a b → Gained b c v → Gained a c v
gained-second a b c v k g = (kept-none a b v k g.0, g.1)

pub cheap-gained : (limit : ℕ) (low : Assignment) (reads : ℕ → Assignment → List ℕ) (a b c : Map) (x y z : ℕ) → Keeps a b → Keeps b c → IsCheap limit low reads (Gained a b) x y → IsCheap limit low reads (Gained b c) y z → IsCheap limit low reads (Gained a c) x z
cheap-gained limit low reads a b c x y z k l = cheap-add limit low reads (Gained a b) (Gained b c) (Gained a c) x y z (has_gained a b) (gained-is a b) (λ v g. gained-not a b v g.0) (λ v g. gained-first a b c v l g) (λ v g. gained-second a b c v k g)

or_first : (a b : Bool) → a ≡ true → (a || b) ≡ true
or_first true b e = refl
or_first false b e = absurd (let h = e in cc)

or_second : (a b : Bool) → b ≡ true → (a || b) ≡ true
or_second true b e = refl
or_second false b e = e

off_by : (a b : Bool) → (a ≡ true → b ≡ false) → b ≡ true → a ≡ false
off_by true b f e = absurd (let h = f refl in cc)
off_by false b f e = refl

pub costs-add-up : CostsAddUp
costs-add-up = record {
  apart = λ limit low reads m n x y z off. cheap-add limit low reads (λ v. m v ≡ true) (λ v. n v ≡ true) (λ v. (m v || n v) ≡ true) x y z m (λ v h. h) (λ v h. off_by (m v) (n v) (off v) h) (λ v h. or_first (m v) (n v) h) (λ v h. or_second (m v) (n v) h);
  gained = cheap-gained;
}

pub reach-goes-on : ReachGoesOn
reach-goes-on = record {
  from = reach-on;
  of_member = λ low reads starts v w c. reach-on low reads starts (v ∷ []) w (reached-member low reads starts v (start c));
}
