-- A sweep that changes something raises the weight; one that changes nothing leaves the least solution.
use Rattle.std.proofs.Common.{◌≡◌, ℕ, ◌+◌, ◌<◌, Bool, true, false, cond, not, ◌||◌, below_more, inl, inr, List, [], ◌++◌, length, refl, sym, ◌∙◌, ap, subst, arith, append_assoc, get_or}
use Rattle.std.proofs.lemmas.Bool.Decides.{nat_tests}
use Rattle.std.proofs.lemmas.List.Elements.{Contains-append_left}
use Rattle.std.specs.Prelude.{nat_lt, IsSome, Option, Some, None}
use Rattle.std.specs.List.{All, Contains}
use Rattle.std.proofs.lemmas.List.{append-nil, get_or_read}
use Rattle.infer_sets.specs.Sets.{Set, is_below, Below, Fits}
use Rattle.infer_sets.proofs.SetOrder.{below-antisym}
use Rattle.infer_equations.specs.Assignment.{Assignment, Map, either, or_none}
use Rattle.infer_equations.specs.Least.{least}
use Rattle.infer_reached.specs.Tables.{found, assigned}
use Rattle.infer_reached.specs.Settled.{Settled, IsSettled}
use Rattle.infer_reached.proofs.SettledIsLeast.{settled_is_least}
use Rattle.infer_reached.specs.InProgress.{HasSet, InProgress, weight}
use Rattle.infer_reached.specs.Extension.{extended, WasRead, AllLeast}
use Rattle.infer_reached.proofs.Extension.{Extends, extends_as, extends_has, read-in_range, assigned-apart, assigned_at}
use Rattle.infer_plain.specs.Sweep.{Looked, Swept}
use Rattle.infer_equations.proofs.Rounds.{Monotone, Limited}
use Rattle.infer_reached.proofs.Progress.{progress-raise, weight-raise, has-insert}
use Rattle.std.specs.FinMap.{insert, get}

not_false : (c : Bool) → not c ≡ false → c ≡ true
not_false true e = refl
not_false false e = sym e

not_true : (c : Bool) → not c ≡ true → c ≡ false
not_true true e = sym e
not_true false e = refl

not_longer : (xs ys : List ℕ) → ys ≡ xs → nat_lt (length xs) (length ys) ≡ false
not_longer xs ys e = let l : length ys ≡ length xs = ap length e in grind (arith, nat_tests)

is_longer : (xs ys : List ℕ) → length xs < length ys → nat_lt (length xs) (length ys) ≡ true
is_longer xs ys l = grind (arith, nat_tests)

or_right' : (a c : Bool) → c ≡ true → (a || c) ≡ true
or_right' true c e = refl
or_right' false c e = e

at_default : (xs : List ℕ) (v k : ℕ) → k < length xs → get_or xs k v ≡ v → get_or xs k 0 ≡ v
at_default xs v k lt e = sym (get_or_read xs k v lt (sym e) 0)

pub found_work : (b o : Map) (v : ℕ) → get b v ≡ None → found (b, o) v ≡ get o v
unfolding found
found_work b o v e = ap (λ x. either x (get o v)) e

no_some : (x : Option Set) (s : Set) → x ≡ None → x ≡ Some s → ⊥
no_some x s e f = cc

pub no_work : (b o : Map) (v : ℕ) → get b v ≡ None → HasSet (b, o) v → get o v ≡ None → ⊥
no_work b o v e has missing = no_some (found (b, o) v) has.0 (found_work b o v e ∙ missing) has.1

module _ (count limit : ℕ) (right : ℕ → Assignment → Set) (mono : Monotone count right) (fits : Limited count limit right) (b : Map) where
  -- after what was read was added, the variable's set stays as it is, or it rises
  pub looked : (p q : Map × List ℕ) (v : ℕ) (s : Set) (noted : List ℕ) (reads : Assignment → List ℕ) → InProgress count limit right (b, p.0) p.1 → Contains p.1 v → WasRead (right v) reads (b, p.0) noted s → Extends count limit right mono fits b p noted q
      → (up : Bool) → up ≡ not (is_below s (or_none (get q.0 v))) → (o : Map) → o ≡ cond up (insert q.0 v s) q.0 → (changed : Bool) → changed ≡ (up || nat_lt (length p.1) (length q.1))
      → Looked count limit right b p v (o, q.1) changed
  looked p q v s noted reads g c r h false e o oe changed ce =
      let d = subst (λ xs. Contains xs v) (sym h.run) (Contains-append_left p.1 h.more v c) in
      let apart = h.progress.apart v d in
      let below : Below s (assigned (b, q.0) v) = record { is = ap (λ x. is_below s x) (assigned-apart b q.0 v apart) ∙ not_false (is_below s (or_none (get q.0 v))) (sym e) } in
      let is : s ≡ assigned (b, p.0) v = below-antisym s (assigned (b, p.0) v) (subst (λ a. Below s (a v)) h.same below) (subst (λ x. Below (assigned (b, p.0) v) x) (sym r.value) (g.rising v c)) in
      let same : (o, q.1) ≡ q = ap (λ (x : Map). (x, q.1)) oe in
      record {
        progress = subst (λ x. InProgress count limit right (b, x) q.1) (sym oe) h.progress;
        more = h.more;
        run = h.run;
        keeps = λ w k. subst (λ x. HasSet (b, x) w) (sym oe) (h.keeps w k);
        rose = elim h.still [
          | inl still ↦ inr (
            ce ∙ not_longer p.1 q.1 (ap (λ (x : Map × List ℕ). x.1) still),
            same ∙ still,
            record { read = noted; there = λ w k. subst (λ (x : Map × List ℕ). HasSet (b, x.0) w) still (h.has w k); again = λ z same. r.local z same ∙ is },
          )
          | inr more ↦ inl (ce ∙ is_longer p.1 q.1 more.1, subst (λ x. weight count limit (b, p.0) < weight count limit (b, x)) (sym oe) more.0)
        ];
      }
  looked p q v s noted reads g c r h true e o oe changed ce =
      let d = subst (λ xs. Contains xs v) (sym h.run) (Contains-append_left p.1 h.more v c) in
      let apart = h.progress.apart v d in
      let has = h.progress.there v d in
      let x = has.0 in
      let value : s ≡ right v (assigned (b, q.0)) = r.value ∙ ap (λ a. right v a) (sym h.same) in
      let lt = h.progress.counted v d in
      let at : assigned (b, q.0) v ≡ x = assigned_at (b, q.0) v x has.1 in
      let here : or_none (get q.0 v) ≡ x = sym (assigned-apart b q.0 v apart) ∙ at in
      let no : is_below s x ≡ false = ap (λ y. is_below s y) (sym here) ∙ not_true (is_below s (or_none (get q.0 v))) (sym e) in
      let up : weight count limit (b, q.0) < weight count limit (b, insert q.0 v s) =
      weight-raise count limit b q.0 v s x apart has.1 (subst (λ y. Fits limit y) at (h.progress.fits.at v))
      (subst (λ y. Fits limit y) (sym value) (fits v (assigned (b, q.0)) lt h.progress.fits))
      (subst (λ y. Below y s) at (subst (λ y. Below (assigned (b, q.0) v) y) (sym value) (h.progress.rising v d)))
      (λ is. let yes' = is.is in cc) lt in
      record {
        progress = subst (λ y. InProgress count limit right (b, y) q.1) (sym oe) (progress-raise count limit right mono fits b q.0 q.1 v s h.progress d value);
        more = h.more;
        run = h.run;
        keeps = λ w k. subst (λ y. HasSet (b, y) w) (sym oe) (has-insert b q.0 v s w apart (h.keeps w k));
        rose = inl (
          ce,
          subst (λ y. weight count limit (b, p.0) < weight count limit (b, y)) (sym oe) (elim h.still [
            | inl is ↦ subst (λ (y : Map × List ℕ). weight count limit (b, y.0) < weight count limit (b, insert q.0 v s)) is up
            | inr less ↦ let l = less.0 in let a = up in omega arith
          ]),
        );
      }

  pub swept-none : (p : Map × List ℕ) → InProgress count limit right (b, p.0) p.1 → Swept count limit right b p 0 p false
  swept-none p g = record { progress = g; more = []; run = sym (append-nil p.1); keeps = λ w h. h; rose = inr (refl, refl, λ k lt. absurd (omega arith)) }

  below_more_by : (P : ℕ → Type 0) (i : ℕ) → ((k : ℕ) → k < i → P k) → P i → (k : ℕ) → k < i + 1 → P k
  below_more_by P i h here = below_more P i h here

  pub swept-more : (p q m : Map × List ℕ) (i v : ℕ) (rose changed : Bool) → Swept count limit right b p i q changed → v ≡ get_or q.1 i 0 → Looked count limit right b q v m rose
      → Swept count limit right b p (i + 1) m (rose || changed)
  swept-more p q m i v rose changed s e l = record {
    progress = l.progress;
    more = s.more ++ l.more;
    run = l.run ∙ ap (λ xs. xs ++ l.more) s.run ∙ append_assoc p.1 s.more l.more;
    keeps = λ w h. l.keeps w (s.keeps w h);
    rose = elim l.rose [
      | inl up ↦ inl (
        ap (λ b. b || changed) up.0,
        elim s.rose [
          | inl was ↦ let a = up.1 in let c = was.1 in omega arith
          | inr was ↦ subst (λ (x : Map × List ℕ). weight count limit (b, x.0) < weight count limit (b, m.0)) was.1 up.1
        ],
      )
      | inr still ↦ elim s.rose [
        | inl was ↦ inl (or_right' rose changed was.0, subst (λ (x : Map × List ℕ). weight count limit (b, p.0) < weight count limit (b, x.0)) (sym still.1) was.1)
        | inr was ↦ inr (
          ap (λ b. b || changed) still.0 ∙ was.0,
          still.1 ∙ was.1,
          below_more (λ k. Settled (right (get_or p.1 k 0)) (b, p.0) (assigned (b, p.0) (get_or p.1 k 0))) i was.2
              (subst (λ (x : Map × List ℕ). Settled (right (get_or x.1 i 0)) (b, x.0) (assigned (b, x.0) (get_or x.1 i 0))) was.1
              (subst (λ w. Settled (right w) (b, q.0) (assigned (b, q.0) w)) e still.2)),
        )
      ]
    ];
  }

  settled_here : (p : Map × List ℕ) → InProgress count limit right (b, p.0) p.1 → ((k : ℕ) → k < length p.1 → Settled (right (get_or p.1 k 0)) (b, p.0) (assigned (b, p.0) (get_or p.1 k 0)))
      → (v : ℕ) (s : Set) → found (b, p.0) v ≡ Some s → IsSettled right (least count limit right) (b, p.0) v s
  settled_here p g all v s e = elim (g.listed v s e) [
    | inl is ↦ inl is
    | inr c ↦ inr (subst (λ x. Settled (right v) (b, p.0) x) (assigned_at (b, p.0) v s e) (subst (λ w. Settled (right w) (b, p.0) (assigned (b, p.0) w)) (at_default p.1 v c.0 c.1 c.2) (all c.0 c.1)))
  ]

  -- a sweep that changed nothing: each set is that of the least solution
  pub swept-least : (p q : Map × List ℕ) → Swept count limit right b p (length p.1) q false → AllLeast count limit right (b, q.0)
  swept-least p q s = elim s.rose [
    | inl up ↦ absurd (let e = up.0 in cc)
    | inr still ↦
        let g : InProgress count limit right (b, p.0) p.1 = subst (λ (x : Map × List ℕ). InProgress count limit right (b, x.0) x.1) still.1 s.progress in
        subst (λ (x : Map × List ℕ). AllLeast count limit right (b, x.0)) (sym still.1)
        (record { at = settled_is_least count limit right mono fits (b, p.0) g.within (settled_here p g still.2) })
  ]

  pub swept-rises : (p q : Map × List ℕ) (i : ℕ) → Swept count limit right b p i q true → weight count limit (b, p.0) < weight count limit (b, q.0)
  swept-rises p q i s = elim s.rose [ inl up ↦ up.1 | inr still ↦ absurd (let e = still.0 in cc) ]

  module _ (p q : Map × List ℕ) (v : ℕ) (s : Set) (noted ws : List ℕ) (reads : Assignment → List ℕ) (e : q ≡ extended b p ws) (same : ws ≡ noted)
      (r : WasRead (right v) reads (b, p.0) noted s) (few : All (λ w. w < count) (reads (assigned (b, p.0)))) (g : InProgress count limit right (b, p.0) p.1) (c : Contains p.1 v) where
    extends_read : Extends count limit right mono fits b p noted q
    extends_read = extends_as count limit right mono fits b p q noted ws e same (read-in_range count limit right mono fits b (reads (assigned (b, p.0))) noted r.within few) g

    pub look_has : IsSome (get q.0 v)
    look_has = extends_has count limit right mono fits b p q noted v c extends_read

    pub look_done : (up : Bool) → up ≡ not (is_below s (or_none (get q.0 v))) → (o : Map) → o ≡ cond up (insert q.0 v s) q.0 → (changed : Bool) → changed ≡ (up || nat_lt (length p.1) (length q.1))
        → Looked count limit right b p v (o, q.1) changed
    look_done up ue o oe changed ce = looked p q v s noted reads g c r extends_read up ue o oe changed ce
