-- Pairs of what was read and its reader: those of one variable, one more, how many there are, and their sums.
use Rattle.std.proofs.Common.{◌≡◌, ℕ, ◌+◌, ◌*◌, ◌<◌, ◌≤◌, Bool, true, false, cond, ◌⊎◌, inl, inr, List, [], ◌∷◌, map, length, refl, sym, ◌∙◌, ap, subst, arith}
use Rattle.std.proofs.lemmas.Bool.Decides.{nat_tests}
use Rattle.std.proofs.lemmas.List.{length-map}
use Rattle.std.proofs.lemmas.List.Elements.{All-head, All-tail}
use Rattle.std.proofs.lemmas.List.Sums.{sum_by-cons}
use Rattle.std.proofs.lemmas.Map.Keys.{IsDistinct-from_sorted}
use Rattle.std.proofs.lemmas.Map.Made.{length-le_from_is_member}
use Rattle.std.proofs.lemmas.Map.Views.{Contains-from_any, list_any-from_Contains, tells_apart}
use Rattle.std.specs.Prelude.{◌==◌, IsSome, Option, Some, None, nat_eq, slice_index}
use Rattle.std.specs.List.{All, Contains, IsDistinct, filter, sum_by}
use Rattle.std.specs.List.Sorted.{IsStrictlySortedBy}
use Rattle.std.specs.Ordering.{nat_cmp, ordering_then}
use Rattle.std.specs.Cmp.{IsTotalOrder, nat_cmp_total, then_total, on_total, eq_by_cmp_equiv}
use Rattle.std.specs.FinMap.{get, nat_cmp-IsAntisymmetric}
use Rattle.std.specs.declared.cmp.Ordering.{Ordering}
use Rattle.std.specs.declared.cmp.Ordering.TheVariants.{Less, Equal, Greater}
use Rattle.std.specs.declared.ops.Bound.TheVariants.{Included}
use Rattle.std.specs.BTreeMap.Range.{range_contains}
use Rattle.infer_sets.specs.Sets.{Set}
use Rattle.infer_equations.specs.Assignment.{Map}
use Rattle.infer_reached.proofs.Progress.{test_same, test_itself}
use Rattle.infer_lazy.specs.Pairs.{pair_cmp, readers}
use Rattle.infer_lazy.specs.Worklist.{with_pair, paired}
use Rattle.infer_lazy.proofs.Members.{head-in, tail-in, cons-cases, nothing-in, map-in}
use Rattle.infer_lazy.proofs.Places.{place_of, place-at}
use Rattle.infer_lazy.proofs.Added.{add-keeps, add-new, add-sums, add-has, add-ordered}

-- pairs are in a total order, and only a pair itself ties with it
pub pair_cmp_total : IsTotalOrder pair_cmp
pair_cmp_total = then_total (on_total (λ (p : ℕ × ℕ). p.0) nat_cmp_total) (on_total (λ (p : ℕ × ℕ). p.1) nat_cmp_total)

both_equal : (r s : Ordering) → ordering_then r s ≡ Equal → (r ≡ Equal) × (s ≡ Equal)
both_equal Less s e = absurd (let h = e in cc)
both_equal Equal s e = (refl, e)
both_equal Greater s e = absurd (let h = e in cc)

pub pair_cmp-exact : (p q : ℕ × ℕ) → pair_cmp p q ≡ Equal → p ≡ q
pair_cmp-exact p q e =
    let h = both_equal (nat_cmp p.0 q.0) (nat_cmp p.1 q.1) e in
    let a = nat_cmp-IsAntisymmetric p.0 q.0 h.0 in
    let c = nat_cmp-IsAntisymmetric p.1 q.1 h.1 in
    λ i. (a i, c i)

-- from (v, 0) to (v, most): the pairs in which v is read
abbrev pub of_var : ℕ → ℕ × ℕ → Bool
of_var v p = range_contains pair_cmp (Included (v, 0)) (Included (v, 18446744073709551615)) p

of_var-is : (v : ℕ) (p : ℕ × ℕ) → p.1 < 18446744073709551616 → of_var v p ≡ (p.0 == v)
of_var-is v p h = grind (arith, nat_tests)

readers_by : (c : Bool) (p : ℕ × ℕ) (ps : List (ℕ × ℕ)) (rs : List ℕ) → map (λ p. p.1) ps ≡ rs → map (λ p. p.1) (cond c (p ∷ ps) ps) ≡ cond c (p.1 ∷ rs) rs
readers_by true p ps rs e = ap (λ xs. p.1 ∷ xs) e
readers_by false p ps rs e = e

pub readers-are : (v : ℕ) (ps : List (ℕ × ℕ)) → All (λ q. q.1 < 18446744073709551616) ps → map (λ p. p.1) (filter (of_var v) ps) ≡ readers v ps
readers-are v [] a = refl
readers-are v (p ∷ ps) a =
    ap (λ c. map (λ p. p.1) (cond c (p ∷ filter (of_var v) ps) (filter (of_var v) ps))) (of_var-is v p (All-head (λ (q : ℕ × ℕ). q.1 < 18446744073709551616) p ps a))
    ∙ readers_by (p.0 == v) p (filter (of_var v) ps) (readers v ps) (readers-are v ps (All-tail (λ (q : ℕ × ℕ). q.1 < 18446744073709551616) p ps a))

has_by : (v u : ℕ) (p : ℕ × ℕ) (ps : List (ℕ × ℕ)) (c : Bool) → (p.0 == v) ≡ c → (p ≡ (v, u)) ⊎ Contains ps (v, u) → (Contains ps (v, u) → Contains (readers v ps) u) → Contains (cond c (p.1 ∷ readers v ps) (readers v ps)) u
has_by v u p ps true e (inl is) more = subst (λ x. Contains (p.1 ∷ readers v ps) x) (ap (λ (x : ℕ × ℕ). x.1) is) (head-in p.1 (readers v ps))
has_by v u p ps true e (inr d) more = tail-in p.1 (readers v ps) u (more d)
has_by v u p ps false e (inl is) more = absurd (let h : (p.0 == v) ≡ true = ap (λ (x : ℕ × ℕ). x.0 == v) is ∙ test_itself v in cc)
has_by v u p ps false e (inr d) more = more d

in_by : (v u : ℕ) (p : ℕ × ℕ) (ps : List (ℕ × ℕ)) (c : Bool) → (p.0 == v) ≡ c → Contains (cond c (p.1 ∷ readers v ps) (readers v ps)) u → (Contains (readers v ps) u → Contains ps (v, u)) → Contains (p ∷ ps) (v, u)
in_by v u p ps true e h more = elim (cons-cases p.1 (readers v ps) u h) [
  | inl is ↦ subst (λ (x : ℕ × ℕ). Contains (p ∷ ps) x) (let a = test_same p.0 v e in λ i. (a i, is i)) (head-in p ps)
  | inr d ↦ tail-in p ps (v, u) (more d)
]
in_by v u p ps false e h more = tail-in p ps (v, u) (more h)

cost_by : (v : ℕ) (f g : ℕ → ℕ) (p : ℕ × ℕ) (ps : List (ℕ × ℕ)) (c : Bool) → (p.0 == v) ≡ c → ((w : ℕ) → f w ≤ g w) → f v < g v → sum_by (λ p. f p.0) ps + length (readers v ps) ≤ sum_by (λ p. g p.0) ps
    → (f p.0 + sum_by (λ p. f p.0) ps) + length (cond c (p.1 ∷ readers v ps) (readers v ps)) ≤ g p.0 + sum_by (λ p. g p.0) ps
cost_by v f g p ps true e le lt h = let m : f p.0 < g p.0 = subst (λ x. f x < g x) (sym (test_same p.0 v e)) lt in omega arith
cost_by v f g p ps false e le lt h = let m = le p.0 in omega arith

-- readers
pub readers-has : (v u : ℕ) (ps : List (ℕ × ℕ)) → Contains ps (v, u) → Contains (readers v ps) u
readers-has v u [] c = absurd (nothing-in (v, u) c)
readers-has v u (p ∷ ps) c = has_by v u p ps (p.0 == v) refl (cons-cases p ps (v, u) c) (readers-has v u ps)

pub readers-in : (v u : ℕ) (ps : List (ℕ × ℕ)) → Contains (readers v ps) u → Contains ps (v, u)
readers-in v u [] c = absurd (nothing-in u c)
readers-in v u (p ∷ ps) c = in_by v u p ps (p.0 == v) refl c (readers-in v u ps)

-- where the set of v rises, each pair in which v is read weighs one more
pub readers-cost : (v : ℕ) (f g : ℕ → ℕ) → ((w : ℕ) → f w ≤ g w) → f v < g v → (ps : List (ℕ × ℕ)) → sum_by (λ p. f p.0) ps + length (readers v ps) ≤ sum_by (λ p. g p.0) ps
readers-cost v f g le lt [] = omega arith
readers-cost v f g le lt (p ∷ ps) =
    let a = sum_by-cons (λ (p : ℕ × ℕ). f p.0) p ps in
    let c = sum_by-cons (λ (p : ℕ × ℕ). g p.0) p ps in
    let h = cost_by v f g p ps (p.0 == v) refl le lt (readers-cost v f g le lt ps) in
    subst (λ x. x + length (readers v (p ∷ ps)) ≤ sum_by (λ (p : ℕ × ℕ). g p.0) (p ∷ ps)) (sym a) (subst (λ x. (f p.0 + sum_by (λ (p : ℕ × ℕ). f p.0) ps) + length (readers v (p ∷ ps)) ≤ x) (sym c) h)

-- no pair weighs more than c
pub sum-most : (f : ℕ → ℕ) (c : ℕ) → ((w : ℕ) → f w ≤ c) → (ps : List (ℕ × ℕ)) → sum_by (λ p. f p.0) ps ≤ length ps * c
sum-most f c le [] = omega arith
sum-most f c le (p ∷ ps) =
    let a = sum_by-cons (λ (p : ℕ × ℕ). f p.0) p ps in
    let h = sum-most f c le ps in
    let m = le p.0 in
    subst (λ x. x ≤ length (p ∷ ps) * c) (sym a) (omega arith)

-- what the loop over the variables that were read adds
pub record Paired (o : Map) (v : ℕ) (ws : List ℕ) (ps qs : List (ℕ × ℕ)) : Type 0 where
  pub keeps : (p : ℕ × ℕ) → Contains ps p → Contains qs p
  pub new : (u w : ℕ) → Contains qs (w, u) → Contains ps (w, u) ⊎ ((u ≡ v) × Contains ws w × IsSome (get o w))
  pub has : (w : ℕ) → Contains ws w → IsSome (get o w) → Contains qs (w, v)
  pub sums : (f : ℕ → ℕ) → sum_by (λ p. f p.0) ps ≤ sum_by (λ p. f p.0) qs
  pub ordered : IsStrictlySortedBy pair_cmp ps → IsStrictlySortedBy pair_cmp qs

only_head : (w : ℕ) (ws : List ℕ) (z : ℕ) → Contains (w ∷ []) z → Contains (w ∷ ws) z
only_head w ws z c = elim (cons-cases w [] z c) [ inl is ↦ subst (λ y. Contains (w ∷ ws) y) is (head-in w ws) | inr n ↦ absurd (nothing-in z n) ]

is_none : (x : Option Set) → x ≡ None → IsSome x → ⊥
is_none None e h = absurd (let p = h in cc)
is_none (Some s) e h = absurd (let p = e in cc)

is_some_by : (x : Option Set) (s : Set) → x ≡ Some s → IsSome x
is_some_by x s e = subst IsSome (sym e) refl

-- one more pair, or none
with_one : (o : Map) (v w : ℕ) (ps : List (ℕ × ℕ)) (x : Option Set) → get o w ≡ x → Paired o v (w ∷ []) ps (with_pair x v w ps)
with_one o v w ps None e = record {
  keeps = λ p h. h;
  new = λ u z h. inl h;
  has = λ z d h. elim (cons-cases w [] z d) [ inl is ↦ absurd (is_none (get o w) e (subst (λ y. IsSome (get o y)) (sym is) h)) | inr n ↦ absurd (nothing-in z n) ];
  sums = λ f. omega arith;
  ordered = λ h. h;
}
with_one o v w ps (Some s) e = record {
  keeps = add-keeps pair_cmp (w, v) ps;
  new = λ u z h. elim (add-new pair_cmp (w, v) ps (z, u) h) [
    | inl is ↦ inr (ap (λ (p : ℕ × ℕ). p.1) is, subst (λ (y : ℕ). Contains (w ∷ []) y) (sym (ap (λ (p : ℕ × ℕ). p.0) is)) (head-in w []), subst (λ (y : ℕ). IsSome (get o y)) (sym (ap (λ (p : ℕ × ℕ). p.0) is)) (is_some_by (get o w) s e))
    | inr d ↦ inl d
  ];
  has = λ z d h. elim (cons-cases w [] z d) [ inl is ↦ subst (λ y. Contains (with_pair (Some s) v w ps) (y, v)) is (add-has pair_cmp (w, v) pair_cmp-exact ps) | inr n ↦ absurd (nothing-in z n) ];
  sums = λ f. add-sums pair_cmp (w, v) (λ p. f p.0) ps;
  ordered = add-ordered pair_cmp (w, v) pair_cmp_total ps;
}

at_most_by : (a c d : ℕ) → a ≤ c → c ≤ d → a ≤ d
at_most_by a c d h k = omega arith

pub paired-all : (o : Map) (v : ℕ) (ws : List ℕ) (ps : List (ℕ × ℕ)) → Paired o v ws ps (paired o v ws ps)
paired-all o v [] ps = record { keeps = λ p h. h; new = λ u w h. inl h; has = λ w c h. absurd (nothing-in w c); sums = λ f. omega arith; ordered = λ h. h }
paired-all o v (w ∷ ws) ps =
    let m = with_pair (get o w) v w ps in
    let one = with_one o v w ps (get o w) refl in
    let rest = paired-all o v ws m in
    record {
      keeps = λ p h. rest.keeps p (one.keeps p h);
      new = λ u z h. elim (rest.new u z h) [
        | inl d ↦ elim (one.new u z d) [ inl e ↦ inl e | inr n ↦ inr (n.0, only_head w ws z n.1, n.2) ]
        | inr n ↦ inr (n.0, tail-in w ws z n.1, n.2)
      ];
      has = λ z c h. elim (cons-cases w ws z c) [
        | inl is ↦ rest.keeps (z, v) (one.has z (subst (λ y. Contains (w ∷ []) y) is (head-in w [])) h)
        | inr d ↦ rest.has z d h
      ];
      sums = λ f. at_most_by _ _ _ (one.sums f) (rest.sums f);
      ordered = λ h. rest.ordered (one.ordered h);
    }

abbrev turned : List ℕ → ℕ × ℕ → ℕ × ℕ
turned run p = (p.1, place_of run p.0)

-- pairs that ascend are no more than those of a list that has each of them, its reader first
pub few-pairs : (run : List ℕ) (ps qs : List (ℕ × ℕ)) → IsDistinct nat_eq run → IsStrictlySortedBy pair_cmp ps → ((i w : ℕ) → Contains ps (w, i) → (i < length run) × Contains qs (slice_index run i, w)) → length ps ≤ length qs
few-pairs run ps qs d h all =
    let laws = eq_by_cmp_equiv pair_cmp_total in
    let at : (i w : ℕ) → Contains ps (w, i) → Contains (map (turned run) qs) (w, i) = λ i w c.
    let g = all i w c in
    subst (λ k. Contains (map (turned run) qs) (w, k)) (place-at run d i g.0) (map-in (turned run) (slice_index run i, w) qs g.1) in
    let le = length-le_from_is_member laws ps (map (turned run) qs) (IsDistinct-from_sorted pair_cmp ps h)
    (λ q m. list_any-from_Contains laws q (map (turned run) qs) (at q.1 q.0 (Contains-from_any (tells_apart pair_cmp-exact) q ps m))) in
    subst (λ n. length ps ≤ n) (length-map qs (turned run)) le
