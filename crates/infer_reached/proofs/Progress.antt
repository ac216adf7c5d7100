-- A variable is added, or its set rises.
use Rattle.std.proofs.Common.{◌≡◌, ℕ, zero, suc, ◌+◌, ◌*◌, ◌<◌, ◌≤◌, Bool, true, false, cond, ◌⊎◌, inl, inr, List, [], ◌∷◌, ◌++◌, refl, sym, ◌∙◌, ap, subst, arith}
use Rattle.std.specs.Prelude.{IsSome, Option, Some, None, ◌==◌}
use Rattle.std.specs.List.{Contains}
use Rattle.std.proofs.lemmas.Bool.Decides.{nat_tests}
use Rattle.std.proofs.lemmas.List.Elements.{Contains-push, Contains-push_cases, Contains-append_left}
use Rattle.std.specs.Ordering.{nat_cmp, eq_by_cmp}
use Rattle.std.specs.Cmp.{nat_cmp_total}
use Rattle.std.specs.FinMap.{get, insert, get-insert}
use Rattle.infer_sets.specs.Sets.{Set, none, Below, Fits, rank}
use Rattle.infer_sets.proofs.SetOrder.{below-refl, below-trans, below-none, rank-le, rank-most}
use Rattle.infer_equations.specs.Assignment.{Assignment, Map, Within, AllFit, or_none, either}
use Rattle.infer_equations.specs.Least.{least}
use Rattle.infer_reached.specs.Tables.{found, assigned}
use Rattle.infer_reached.specs.InProgress.{HasSet, InProgress, weigh, total, weight}
use Rattle.infer_equations.proofs.Rounds.{Monotone, Limited, below-eq, least-solves}

either-none : (o p : Option Set) (c : Bool) (s : Set) → (c ≡ true → o ≡ None) → either o (cond c (Some s) p) ≡ cond c (Some s) (either o p)
either-none o p true s h = ap (λ x. either x (Some s)) (h refl)
either-none o p false s h = refl

same_test : (q v : ℕ) → eq_by_cmp nat_cmp q v ≡ (q == v)
same_test q v = grind (arith, nat_tests)

pub test_same : (q v : ℕ) → (q == v) ≡ true → q ≡ v
test_same q v e = grind (arith, nat_tests)

pub get-put : (o : Map) (v : ℕ) (s : Set) (q : ℕ) → get (insert o v s) q ≡ cond (q == v) (Some s) (get o q)
get-put o v s q = get-insert nat_cmp_total o v s q ∙ ap (λ c. cond c (Some s) (get o q)) (same_test q v)

stored-new : (run : List ℕ) (w v : ℕ) (s : Set) (c : Bool) → (v == w) ≡ c → (x : Option Set) → IsSome (cond c (Some s) x) → (IsSome x → Contains run v) → Contains (run ++ w ∷ []) v
stored-new run w v s true e x h g = subst (λ z. Contains (run ++ w ∷ []) z) (sym (test_same v w e)) (Contains-push run w)
stored-new run w v s false e x h g = Contains-append_left run (w ∷ []) v (g h)

stored-raise : (run : List ℕ) (v : ℕ) → Contains run v → (w : ℕ) (s : Set) (c : Bool) → (w == v) ≡ c → (x : Option Set) → IsSome (cond c (Some s) x) → (IsSome x → Contains run w) → Contains run w
stored-raise run v d w s true e x h g = subst (λ z. Contains run z) (sym (test_same w v e)) d
stored-raise run v d w s false e x h g = g h

-- what the tables have after a variable is given a set
pub found-insert : (b o : Map) (v : ℕ) (s : Set) (q : ℕ) → get b v ≡ None → found (b, insert o v s) q ≡ cond (q == v) (Some s) (found (b, o) q)
unfolding found
found-insert b o v s q apart =
    ap (λ x. either (get b q) x) (get-insert nat_cmp_total o v s q ∙ ap (λ c. cond c (Some s) (get o q)) (same_test q v))
    ∙ either-none (get b q) (get o q) (q == v) s (λ e. ap (λ x. get b x) (test_same q v e) ∙ apart)

first_none : (o p : Option Set) → either o p ≡ None → o ≡ None
first_none None p h = refl
first_none (Some s) p h = absurd (let e = h in cc)

pub found-first : (b o : Map) (v : ℕ) → found (b, o) v ≡ None → get b v ≡ None
unfolding found
found-first b o v h = first_none (get b v) (get o v) h

or_cond : (c : Bool) (s : Set) (o : Option Set) → or_none (cond c (Some s) o) ≡ cond c s (or_none o)
or_cond true s o = refl
or_cond false s o = refl

pub assigned-insert : (b o : Map) (v : ℕ) (s : Set) (q : ℕ) → get b v ≡ None → assigned (b, insert o v s) q ≡ cond (q == v) s (assigned (b, o) q)
unfolding assigned
assigned-insert b o v s q apart = ap or_none (found-insert b o v s q apart) ∙ or_cond (q == v) s (found (b, o) q)

same_or : (c : Bool) (x y : Set) → (c ≡ true → x ≡ y) → cond c x y ≡ y
same_or true x y h = h refl
same_or false x y h = refl

pub assigned-missing : (t : Map × Map) (v : ℕ) → found t v ≡ None → assigned t v ≡ none
unfolding assigned
assigned-missing t v h = ap or_none h

assigned-new_at : (b o : Map) (v : ℕ) → found (b, o) v ≡ None → (q : ℕ) → assigned (b, insert o v none) q ≡ assigned (b, o) q
assigned-new_at b o v h q =
    assigned-insert b o v none q (found-first b o v h)
    ∙ same_or (q == v) none (assigned (b, o) q) (λ e. sym (ap (λ x. assigned (b, o) x) (test_same q v e) ∙ assigned-missing (b, o) v h))

none-before : (c : Bool) (s : Set) (x : Option Set) → cond c (Some s) x ≡ None → x ≡ None
none-before true s x h = absurd (let e = h in cc)
none-before false s x h = h

pub found-before : (b o : Map) (w z : ℕ) (s : Set) → get b w ≡ None → found (b, insert o w s) z ≡ None → found (b, o) z ≡ None
found-before b o w z s apart h = none-before (z == w) s (found (b, o) z) (sym (found-insert b o w s z apart) ∙ h)

-- to add a variable with the empty set changes no set
pub assigned-new : (b o : Map) (v : ℕ) → found (b, o) v ≡ None → assigned (b, insert o v none) ≡ assigned (b, o)
assigned-new b o v h = λ i q. assigned-new_at b o v h q i

-- sums
pub total-rises : (f g : ℕ → ℕ) → ((v : ℕ) → f v ≤ g v) → (n : ℕ) → total f n ≤ total g n
unfolding total
total-rises f g h zero = omega arith
total-rises f g h (suc n) = let a = h n in let b = total-rises f g h n in omega arith

lt_by : (u n : ℕ) → u < suc n → (u == n) ≡ false → u < n
lt_by u n lt e = grind (arith, nat_tests)

grows_by : (f g : ℕ → ℕ) → ((v : ℕ) → f v ≤ g v) → (u n : ℕ) → u < suc n → f u < g u → (u < n → total f n < total g n) → (c : Bool) → (u == n) ≡ c → f n + total f n < g n + total g n
grows_by f g h u n lt more hyp true e =
    let is = test_same u n e in
    let m : f n < g n = subst (λ x. f x < g x) is more in
    let b = total-rises f g h n in
    omega arith
grows_by f g h u n lt more hyp false e =
    let less : u < n = lt_by u n lt e in
    let a = h n in
    let b = hyp less in
    omega arith

pub total-grows : (f g : ℕ → ℕ) → ((v : ℕ) → f v ≤ g v) → (u n : ℕ) → u < n → f u < g u → total f n < total g n
unfolding total
total-grows f g h u zero lt more = absurd (omega arith)
total-grows f g h u (suc n) lt more =
    let a = h n in
    let b = total-rises f g h n in
    grows_by f g h u n lt more (λ less. total-grows f g h u n less more) (u == n) refl

pub total-most : (f : ℕ → ℕ) (c : ℕ) → ((v : ℕ) → f v ≤ c) → (n : ℕ) → total f n ≤ n * c
unfolding total
total-most f c h zero = omega arith
total-most f c h (suc n) = let a = h n in let b = total-most f c h n in omega arith

pub test_itself : (v : ℕ) → (v == v) ≡ true
test_itself v = grind (arith, nat_tests)

pub less_by : (m n : ℕ) → m ≤ n → (n ≤ m → ⊥) → m < n
less_by m n h not = omega arith

rank_less : (limit : ℕ) (x s : Set) → rank limit x ≤ rank limit s → (rank limit s ≤ rank limit x → ⊥) → rank limit x < rank limit s
rank_less limit x s h not = less_by (rank limit x) (rank limit s) h not

weigh-most : (limit : ℕ) (o : Option Set) → Fits limit (or_none o) → weigh limit o ≤ limit + 2
unfolding weigh
weigh-most limit None f = omega arith
weigh-most limit (Some s) f = let m = rank-most limit s f in omega arith

weigh-same : (limit : ℕ) (f : ℕ → Option Set) (v : ℕ) (s : Set) (o : Option Set) (c : Bool) → (c ≡ true → weigh limit o ≤ weigh limit (Some s)) → weigh limit o ≤ weigh limit (cond c (Some s) o)
weigh-same limit f v s o true h = h refl
weigh-same limit f v s o false h = omega arith

-- the weight rises where one variable's does and the others stay
weight-insert : (count limit : ℕ) (b o : Map) (v : ℕ) (s : Set) → get b v ≡ None → weigh limit (found (b, o) v) < weigh limit (Some s) → v < count → weight count limit (b, o) < weight count limit (b, insert o v s)
unfolding weight
weight-insert count limit b o v s apart more lt =
    total-grows (λ q. weigh limit (found (b, o) q)) (λ q. weigh limit (found (b, insert o v s) q))
    (λ q. subst (λ x. weigh limit (found (b, o) q) ≤ weigh limit x) (sym (found-insert b o v s q apart))
    (weigh-same limit (found (b, o)) q s (found (b, o) q) (q == v) (λ e. let m : weigh limit (found (b, o) q) < weigh limit (Some s) = subst (λ z. weigh limit (found (b, o) z) < weigh limit (Some s)) (sym (test_same q v e)) more in omega arith)))
    v count lt
    (subst (λ x. weigh limit (found (b, o) v) < weigh limit x) (sym (found-insert b o v s v apart ∙ ap (λ c. cond c (Some s) (found (b, o) v)) (test_itself v))) more)

pub weight-new : (count limit : ℕ) (b o : Map) (w : ℕ) → found (b, o) w ≡ None → w < count → weight count limit (b, o) < weight count limit (b, insert o w none)
unfolding weigh
weight-new count limit b o w h lt =
    weight-insert count limit b o w none (found-first b o w h) (subst (λ x. weigh limit x < weigh limit (Some none)) (sym h) (omega arith)) lt

pub weight-raise : (count limit : ℕ) (b o : Map) (v : ℕ) (s x : Set) → get b v ≡ None → found (b, o) v ≡ Some x → Fits limit x → Fits limit s → Below x s → (Below s x → ⊥) → v < count → weight count limit (b, o) < weight count limit (b, insert o v s)
unfolding weigh
weight-raise count limit b o v s x apart h fx fs up not lt =
    let r = rank-le limit x s up fx fs in
    let more : rank limit x < rank limit s = rank_less limit x s r.0 (λ le. not (below-eq s x (sym (r.1 le)))) in
    weight-insert count limit b o v s apart (subst (λ y. weigh limit y < weigh limit (Some s)) (sym h) (omega arith)) lt

pub weight-most : (count limit : ℕ) (t : Map × Map) → AllFit limit (assigned t) → weight count limit t ≤ count * (limit + 2)
unfolding weight assigned
weight-most count limit t fits = total-most (λ v. weigh limit (found t v)) (limit + 2) (λ v. weigh-most limit (found t v) (fits.at v)) count

has-cond : (c : Bool) (s : Set) (o : Option Set) → (x : Set) × (o ≡ Some x) → (x : Set) × (cond c (Some s) o ≡ Some x)
has-cond true s o h = (s, refl)
has-cond false s o h = h

pub has-insert : (b o : Map) (v : ℕ) (s : Set) (w : ℕ) → get b v ≡ None → HasSet (b, o) w → HasSet (b, insert o v s) w
has-insert b o v s w apart h =
    let p = has-cond (w == v) s (found (b, o) w) h in
    (p.0, found-insert b o v s w apart ∙ p.1)

pub has-itself : (b o : Map) (v : ℕ) (s : Set) → get b v ≡ None → HasSet (b, insert o v s) v
has-itself b o v s apart = (s, found-insert b o v s v apart ∙ ap (λ c. cond c (Some s) (found (b, o) v)) (test_itself v))

module _ (count limit : ℕ) (right : ℕ → Assignment → Set) (mono : Monotone count right) (fits : Limited count limit right) where
  listed-new : (run : List ℕ) (w v : ℕ) (s : Set) (c : Bool) → (v == w) ≡ c → (o : Option Set) → cond c (Some none) o ≡ Some s
      → (o ≡ Some s → (s ≡ least count limit right v) ⊎ Contains run v) → (s ≡ least count limit right v) ⊎ Contains (run ++ w ∷ []) v
  listed-new run w v s true e o h g = inr (subst (λ z. Contains (run ++ w ∷ []) z) (sym (test_same v w e)) (Contains-push run w))
  listed-new run w v s false e o h g = elim (g h) [ inl is ↦ inl is | inr c ↦ inr (Contains-append_left run (w ∷ []) v c) ]

  listed-raise : (run : List ℕ) (v : ℕ) → Contains run v → (w : ℕ) (s x : Set) (c : Bool) → (w == v) ≡ c → (o : Option Set) → cond c (Some s) o ≡ Some x
      → (o ≡ Some x → (x ≡ least count limit right w) ⊎ Contains run w) → (x ≡ least count limit right w) ⊎ Contains run w
  listed-raise run v d w s x true e o h g = inr (subst (λ z. Contains run z) (sym (test_same w v e)) d)
  listed-raise run v d w s x false e o h g = g h

  -- to add a variable
  pub progress-new : (b o : Map) (run : List ℕ) (w : ℕ) → InProgress count limit right (b, o) run → found (b, o) w ≡ None → w < count → InProgress count limit right (b, insert o w none) (run ++ w ∷ [])
  progress-new b o run w g h lt =
      let same = assigned-new b o w h in
      let apart = found-first b o w h in
      record {
        within = subst (λ a. Within a (least count limit right)) (sym same) g.within;
        fits = subst (λ a. AllFit limit a) (sym same) g.fits;
        rising = λ v c. subst (λ a. Below (a v) (right v a)) (sym same)
            (elim (Contains-push_cases run w v c) [
              | inl in_run ↦ g.rising v in_run
              | inr is ↦ subst (λ z. Below (assigned (b, o) z) (right z (assigned (b, o)))) is (subst (λ s. Below s (right w (assigned (b, o)))) (sym (assigned-missing (b, o) w h)) (below-none _))
            ]);
        apart = λ v c. elim (Contains-push_cases run w v c) [ inl in_run ↦ g.apart v in_run | inr is ↦ subst (λ z. get b z ≡ None) is apart ];
        there = λ v c. elim (Contains-push_cases run w v c) [ inl in_run ↦ has-insert b o w none v apart (g.there v in_run) | inr is ↦ subst (λ z. HasSet (b, insert o w none) z) is (has-itself b o w none apart) ];
        counted = λ v c. elim (Contains-push_cases run w v c) [ inl in_run ↦ g.counted v in_run | inr is ↦ subst (λ z. z < count) is lt ];
        stored = λ v h. stored-new run w v none (v == w) refl (get o v) (subst (λ x. IsSome x) (get-put o w none v) h) (g.stored v);
        listed = λ v s h. listed-new run w v s (v == w) refl (found (b, o) v) (sym (found-insert b o w none v apart) ∙ h) (g.listed v s);
      }

  cond-below : (c : Bool) (x y z : Set) → (c ≡ true → Below x z) → Below y z → Below (cond c x y) z
  cond-below true x y z p q = p refl
  cond-below false x y z p q = q

  cond-above : (c : Bool) (x y z : Set) → (c ≡ true → Below z x) → Below z y → Below z (cond c x y)
  cond-above true x y z p q = p refl
  cond-above false x y z p q = q

  cond-fits : (c : Bool) (x y : Set) → Fits limit x → Fits limit y → Fits limit (cond c x y)
  cond-fits true x y p q = p
  cond-fits false x y p q = q

  -- to give a variable its right side raises the assignment
  pub raise-within : (b o : Map) (run : List ℕ) (v : ℕ) (s : Set) → InProgress count limit right (b, o) run → Contains run v → s ≡ right v (assigned (b, o)) → Within (assigned (b, o)) (assigned (b, insert o v s))
  raise-within b o run v s g c e = record {
    at = λ q.
        subst (λ x. Below (assigned (b, o) q) x) (sym (assigned-insert b o v s q (g.apart v c)))
        (cond-above (q == v) s (assigned (b, o) q) (assigned (b, o) q)
        (λ t. subst (λ z. Below (assigned (b, o) z) s) (sym (test_same q v t)) (subst (λ x. Below (assigned (b, o) v) x) (sym e) (g.rising v c)))
        (below-refl _));
  }

  pub progress-raise : (b o : Map) (run : List ℕ) (v : ℕ) (s : Set) → InProgress count limit right (b, o) run → Contains run v → s ≡ right v (assigned (b, o)) → InProgress count limit right (b, insert o v s) run
  progress-raise b o run v s g c e =
      let a = assigned (b, o) in
      let a' = assigned (b, insert o v s) in
      let low = least count limit right in
      let apart = g.apart v c in
      let lt = g.counted v c in
      let up = raise-within b o run v s g c e in
      record {
        within = record {
          at = λ q. subst (λ x. Below x (low q)) (sym (assigned-insert b o v s q apart))
              (cond-below (q == v) s (a q) (low q)
              (λ t. subst (λ z. Below s (low z)) (sym (test_same q v t))
              (subst (λ x. Below x (low v)) (sym e) (subst (λ x. Below (right v a) x) (least-solves count limit right mono fits v lt) (mono v a low lt g.within))))
              (g.within.at q));
        };
        fits = record {
          at = λ q. subst (λ x. Fits limit x) (sym (assigned-insert b o v s q apart))
              (cond-fits (q == v) s (a q) (subst (λ x. Fits limit x) (sym e) (fits v a lt g.fits)) (g.fits.at q));
        };
        rising = λ w d. below-trans _ (right w a) _
            (subst (λ x. Below x (right w a)) (sym (assigned-insert b o v s w apart))
            (cond-below (w == v) s (a w) (right w a) (λ t. subst (λ z. Below s (right z a)) (sym (test_same w v t)) (below-eq _ _ e)) (g.rising w d)))
            (mono w a a' (g.counted w d) up);
        apart = g.apart;
        there = λ w d. has-insert b o v s w apart (g.there w d);
        counted = g.counted;
        stored = λ w h. stored-raise run v c w s (w == v) refl (get o w) (subst (λ x. IsSome x) (get-put o v s w) h) (g.stored w);
        listed = λ w x h. listed-raise run v c w s x (w == v) refl (found (b, o) w) (sym (found-insert b o v s w apart) ∙ h) (g.listed w x);
      }
