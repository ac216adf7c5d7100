-- To add the variables that were read.
use Rattle.std.proofs.Common.{◌≡◌, ℕ, zero, suc, ◌+◌, ◌<◌, Bool, true, false, ◌||◌, ◌⊎◌, inl, inr, List, [], ◌∷◌, ◌++◌, length, drop, get_or, refl, sym, ◌∙◌, ap, subst, arith, append_assoc, length-append}
use Rattle.std.proofs.lemmas.List.Elements.{Contains-append_left, All-contains}
use Rattle.std.specs.Prelude.{IsSome, Option, Some, None}
use Rattle.std.specs.List.{All, Contains, IsDistinct, list_any}
use Rattle.std.specs.Prelude.{nat_eq}
use Rattle.std.specs.Cmp.{nat_eq_equiv}
use Rattle.std.proofs.lemmas.Map.Keys.{IsDistinct-push}
use Rattle.std.proofs.lemmas.List.{append-nil}
use Rattle.infer_sets.specs.Sets.{Set, none, is_below, Below, Fits}
use Rattle.infer_sets.proofs.SetOrder.{below-none, below-refl, fits-none}
use Rattle.infer_equations.specs.Assignment.{Assignment, Map, Agree, or_none, either, assignment_of, overlaid}
use Rattle.infer_equations.proofs.Overlay.{get-overlaid}
use Rattle.infer_equations.proofs.Keeping.{drop-next}
use Rattle.infer_equations.specs.Least.{least}
use Rattle.infer_sets.specs.Numbers.{set_at, Grew}
use Rattle.infer_sets.proofs.Growth.{is_number-grew}
use Rattle.infer_sets.proofs.Layers.{set-kept}
use Rattle.infer_reached.specs.Tables.{found, assigned, tables}
use Rattle.infer_equations.specs.Seen.{Seen, sets, solved, Keeps, Stays}
use Rattle.infer_equations.specs.Reading.{Gives}
use Rattle.infer_equations.proofs.Reading.{kept_solved, stays-sets, keeps-refl, keeps-trans}
use Rattle.infer_reached.specs.InProgress.{HasSet, InProgress, weight}
use Rattle.infer_reached.specs.Extension.{added_by, extended, WasRead}
use Rattle.infer_equations.proofs.Rounds.{Monotone, Limited}
use Rattle.infer_reached.proofs.Progress.{progress-new, assigned-new, weight-new, test_same, found-before, found-first, has-insert, has-itself}
use Rattle.std.specs.FinMap.{insert, get, empty, get-empty}
use Rattle.std.specs.Ordering.{nat_cmp}

longer : (xs : List ℕ) (w : ℕ) → length xs < length (xs ++ w ∷ [])
longer xs w = omega (arith, length-append xs (w ∷ []))

assigned-overlaid_at : (b o : Map) (v : ℕ) → assignment_of (overlaid b o) v ≡ assigned (b, o) v
unfolding assignment_of assigned found
assigned-overlaid_at b o v = ap or_none (get-overlaid b o v)

-- a view of two tables shows what they have together
pub assigned-overlaid : (b o : Map) → assignment_of (overlaid b o) ≡ assigned (b, o)
assigned-overlaid b o = λ i v. assigned-overlaid_at b o v i

-- what was read after a view forgot what it had noted
pub was_read : (right : Assignment → Set) (reads : Assignment → List ℕ) (u before after w : Seen) (id : ℕ) (noted : List ℕ) → Gives right reads before after id → Stays u before → before.noted ≡ [] → Stays after w → noted ≡ after.noted
    → (id < length w.numbers) × WasRead right reads (tables u) noted (set_at w.numbers id)
was_read right reads u before after w id noted g s none t now =
    let h = g.reads in
    let sets : assignment_of (sets before) ≡ assigned (tables u) = ap (λ (m : Map). assignment_of m) (stays-sets u before s) ∙ assigned-overlaid (solved u) u.work in
    let listed : noted ≡ h.more = now ∙ h.noted ∙ ap (λ xs. xs ++ h.more) none in
    let kept = is_number-grew after.numbers w.numbers id g.set t.keeps.numbers g.numbered in (
      kept.below,
      record {
        value = kept.is ∙ h.value ∙ ap right sets;
        within = subst (λ xs. All (λ w. Contains (reads (assigned (tables u))) w) xs) (sym listed) (subst (λ a. All (λ w. Contains (reads a) w) h.more) sets h.within);
        local = λ q same. h.local q (subst (λ a. Agree h.more a q) (sym sets) (subst (λ xs. Agree xs (assigned (tables u)) q) listed same)) ∙ sym kept.is;
      },
    )

-- what was read, by a number that was given while more are
pub read_grew : (right : Assignment → Set) (reads : Assignment → List ℕ) (t : Map × Map) (noted : List ℕ) (xs ys : List Set) (id : ℕ) → Grew xs ys → id < length xs → WasRead right reads t noted (set_at xs id) → WasRead right reads t noted (set_at ys id)
read_grew right reads t noted xs ys id g l h = subst (λ s. WasRead right reads t noted s) (sym (set-kept xs ys id g l)) h

-- tables that stay
pub tables_stay : (u v : Seen) → Stays u v → tables v ≡ tables u
tables_stay u v h = λ i. (kept_solved u v h.keeps i, h.work i)

pub added_stay : (u v : Seen) (q : Map × List ℕ) (run ws : List ℕ) → Stays u v → q ≡ extended (solved v) (v.work, run) ws → q ≡ extended (solved u) (u.work, run) ws
added_stay u v q run ws h e = e ∙ ap (λ (t : Map × Map). extended t.0 (t.1, run) ws) (tables_stay u v h)

pub Contains-cons_cases : (x : ℕ) (xs : List ℕ) (w : ℕ) → Contains (x ∷ xs) w → (x ≡ w) ⊎ Contains xs w
Contains-cons_cases x xs w (zero, l, e) = inl e
Contains-cons_cases x xs w (suc k, l, e) = inr (k, omega arith, e)

pub Contains-head : (x : ℕ) (xs : List ℕ) → Contains (x ∷ xs) x
Contains-head x xs = (0, omega arith, refl)

pub Contains-tail : (x : ℕ) (xs : List ℕ) (w : ℕ) → Contains xs w → Contains (x ∷ xs) w
Contains-tail x xs w p = (suc p.0, omega arith, p.2)

pub assigned_at : (t : Map × Map) (v : ℕ) (x : Set) → found t v ≡ Some x → assigned t v ≡ x
unfolding assigned
assigned_at t v x e = ap or_none e

pub none_is : (x : Option Set) → x ≡ None → IsSome x → ⊥
none_is None e h = absurd (let p = h in cc)
none_is (Some s) e h = absurd (let p = e in cc)

pub none_some : (o : Option Set) (x : Set) → o ≡ None → o ≡ Some x → ⊥
none_some o x e f = cc

any_by : (q k : ℕ) (ks : List ℕ) (c : Bool) → nat_eq q k ≡ c → (c || list_any (nat_eq q) ks) ≡ true → (list_any (nat_eq q) ks ≡ true → Contains ks q) → Contains (k ∷ ks) q
any_by q k ks true e h more = let is : q ≡ k = test_same q k e in subst (λ x. Contains (k ∷ ks) x) (sym is) (Contains-head k ks)
any_by q k ks false e h more = Contains-tail k ks q (more h)

not_by : (c : Bool) → (c ≡ true → ⊥) → c ≡ false
not_by true h = absurd (h refl)
not_by false h = refl

pub any_contains : (q : ℕ) (ks : List ℕ) → list_any (nat_eq q) ks ≡ true → Contains ks q
any_contains q [] e = absurd (let h = e in cc)
any_contains q (k ∷ ks) e = any_by q k ks (nat_eq q k) refl e (any_contains q ks)

not_any : (q : ℕ) (ks : List ℕ) → (Contains ks q → ⊥) → list_any (nat_eq q) ks ≡ false
not_any q ks h = not_by (list_any (nat_eq q) ks) (λ e. h (any_contains q ks e))

pub assigned-apart : (b o : Map) (v : ℕ) → get b v ≡ None → assigned (b, o) v ≡ or_none (get o v)
unfolding assigned found
assigned-apart b o v e = ap (λ x. or_none (either x (get o v))) e

module _ (count limit : ℕ) (right : ℕ → Assignment → Set) (mono : Monotone count right) (fits : Limited count limit right) (b : Map) where
  pub record Extends (p : Map × List ℕ) (ws : List ℕ) (q : Map × List ℕ) : Type 0 where
    pub progress : InProgress count limit right (b, q.0) q.1
    pub same : assigned (b, q.0) ≡ assigned (b, p.0)
    pub has : (w : ℕ) → Contains ws w → HasSet (b, q.0) w
    pub keeps : (w : ℕ) → HasSet (b, p.0) w → HasSet (b, q.0) w
    pub more : List ℕ
    pub run : q.1 ≡ p.1 ++ more
    pub from : (w : ℕ) → Contains more w → Contains ws w
    pub new : (w : ℕ) → Contains more w → found (b, p.0) w ≡ None
    pub apart : IsDistinct nat_eq p.1 → IsDistinct nat_eq q.1
    pub still : (q ≡ p) ⊎ ((weight count limit (b, p.0) < weight count limit (b, q.0)) × (length p.1 < length q.1))

  none_more : (p : Map × List ℕ) → InProgress count limit right (b, p.0) p.1 → Extends p [] p
  none_more p g = record { progress = g; same = refl; has = λ w c. absurd (let h = c.1 in omega arith); keeps = λ w h. h; more = []; run = sym (append-nil p.1); from = λ w c. absurd (let h = c.1 in omega arith); new = λ w c. absurd (let h = c.1 in omega arith); apart = λ d. d; still = inl refl }

  step : (p : Map × List ℕ) (w : ℕ) (ws : List ℕ) (o : Option Set) → found (b, p.0) w ≡ o → w < count → InProgress count limit right (b, p.0) p.1
      → ((m : Map × List ℕ) → InProgress count limit right (b, m.0) m.1 → Extends m ws (extended b m ws)) → Extends p (w ∷ ws) (extended b (added_by o p.0 p.1 w) ws)
  step p w ws (Some s) e lt g rest =
      let r = rest p g in
      record {
        progress = r.progress;
        same = r.same;
        keeps = r.keeps;
        more = r.more;
        run = r.run;
        still = r.still;
        apart = r.apart;
        new = r.new;
        from = λ z c. Contains-tail w ws z (r.from z c);
        has = λ z c. elim (Contains-cons_cases w ws z c) [ inl is ↦ subst (λ x. HasSet (b, (extended b p ws).0) x) is (r.keeps w (s, e)) | inr d ↦ r.has z d ];
      }
  step p w ws None e lt g rest =
      let m : Map × List ℕ = (insert p.0 w none, p.1 ++ w ∷ []) in
      let gm = progress-new count limit right mono fits b p.0 p.1 w g e lt in
      let r = rest m gm in
      let apart = found-first b p.0 w e in
      let less = weight-new count limit b p.0 w e lt in
      record {
        progress = r.progress;
        same = r.same ∙ assigned-new b p.0 w e;
        has = λ z c. elim (Contains-cons_cases w ws z c) [ inl is ↦ subst (λ x. HasSet (b, (extended b m ws).0) x) is (r.keeps w (has-itself b p.0 w none apart)) | inr d ↦ r.has z d ];
        keeps = λ z h. r.keeps z (has-insert b p.0 w none z apart h);
        more = w ∷ r.more;
        new = λ z c. elim (Contains-cons_cases w r.more z c) [ inl is ↦ subst (λ x. found (b, p.0) x ≡ None) is e | inr d ↦ found-before b p.0 w z none apart (r.new z d) ];
        from = λ z c. elim (Contains-cons_cases w r.more z c) [ inl is ↦ subst (λ x. Contains (w ∷ ws) x) is (Contains-head w ws) | inr d ↦ Contains-tail w ws z (r.from z d) ];
        apart = λ d. r.apart (IsDistinct-push nat_eq_equiv p.1 w d (not_any w p.1 (λ c. let h = g.there w c in let f = e in none_some (found (b, p.0) w) h.0 e h.1)));
        run = r.run ∙ append_assoc p.1 (w ∷ []) r.more;
        still = inr (elim r.still [
          | inl is ↦ (subst (λ (x : Map × List ℕ). weight count limit (b, p.0) < weight count limit (b, x.0)) (sym is) less, subst (λ (x : Map × List ℕ). length p.1 < length x.1) (sym is) (longer p.1 w))
          | inr more ↦ let a = less in let l = longer p.1 w in let m1 = more.0 in let m2 = more.1 in (omega arith, omega arith)
        ]);
      }

  pub extends : (ws : List ℕ) (p : Map × List ℕ) → ((w : ℕ) → Contains ws w → w < count) → InProgress count limit right (b, p.0) p.1 → Extends p ws (extended b p ws)
  extends [] p in_range g = none_more p g
  extends (w ∷ ws) p in_range g =
      step p w ws (found (b, p.0) w) refl (in_range w (Contains-head w ws)) g (λ m gm. extends ws m (λ z c. in_range z (Contains-tail w ws z c)) gm)

  pub read-in_range : (reads noted : List ℕ) → All (λ w. Contains reads w) noted → All (λ w. w < count) reads → (w : ℕ) → Contains noted w → w < count
  read-in_range reads noted all few w c = All-contains (λ w. w < count) reads w few (All-contains (λ w. Contains reads w) noted w all c)

  pub extends_as : (p q : Map × List ℕ) (noted ws : List ℕ) → q ≡ extended b p ws → ws ≡ noted → ((w : ℕ) → Contains noted w → w < count) → InProgress count limit right (b, p.0) p.1 → Extends p noted q
  extends_as p q noted ws e same in_range g = subst (λ x. Extends p noted x) (sym (e ∙ ap (λ xs. extended b p xs) same)) (extends noted p in_range g)

  some_by : (o m : Option Set) → o ≡ None → (x : Set) × (either o m ≡ Some x) → IsSome m
  some_by o None e h = absurd (let p = ap (λ z. either z None) (sym e) ∙ h.1 in cc)
  some_by o (Some s) e h = refl

  -- a variable that was reached has a set in the second table
  pub own_has : (o : Map) (run : List ℕ) (v : ℕ) → InProgress count limit right (b, o) run → Contains run v → IsSome (get o v)
  unfolding found
  own_has o run v g c = some_by (get b v) (get o v) (g.apart v c) (g.there v c)

  pub extends_has : (p q : Map × List ℕ) (noted : List ℕ) (v : ℕ) → Contains p.1 v → Extends p noted q → IsSome (get q.0 v)
  extends_has p q noted v c h = own_has q.0 q.1 v h.progress (subst (λ xs. Contains xs v) (sym h.run) (Contains-append_left p.1 h.more v c))

found-none : (b o : Map) → b ≡ empty → o ≡ empty → (v : ℕ) → found (b, o) v ≡ None
unfolding found
found-none b o e h v = ap (λ m. either (get m v) (get o v)) e ∙ ap (λ m. either (get {R = nat_cmp} empty v) (get m v)) h ∙ ap (λ x. either x (get {X = Set} {R = nat_cmp} empty v)) (get-empty nat_cmp v) ∙ get-empty nat_cmp v

assigned-none : (b o : Map) → b ≡ empty → o ≡ empty → (v : ℕ) → assigned (b, o) v ≡ none
unfolding assigned
assigned-none b o e h v = ap or_none (found-none b o e h v)

pub no_run : (run : List ℕ) → run ≡ [] → (v : ℕ) → Contains run v → ⊥
no_run run e v c = let l = ap length e in let h = c.1 in omega arith

pub no_set : (o : Map) → o ≡ empty → (v : ℕ) → IsSome (get o v) → ⊥
no_set o e v h = let n : get o v ≡ None = ap (λ m. get m v) e ∙ get-empty nat_cmp v in none_is (get o v) n h

module _ (count limit : ℕ) (right : ℕ → Assignment → Set) (mono : Monotone count right) (fits : Limited count limit right) where
  -- with no table and no variable reached
  pub progress-none : (b o : Map) (run : List ℕ) → b ≡ empty → o ≡ empty → run ≡ [] → InProgress count limit right (b, o) run
  progress-none b o run e h r = record {
    within = record { at = λ v. subst (λ s. Below s (least count limit right v)) (sym (assigned-none b o e h v)) (below-none _) };
    fits = record { at = λ v. subst (λ s. Fits limit s) (sym (assigned-none b o e h v)) (fits-none limit) };
    rising = λ v c. absurd (no_run run r v c);
    apart = λ v c. absurd (no_run run r v c);
    there = λ v c. absurd (no_run run r v c);
    counted = λ v c. absurd (no_run run r v c);
    stored = λ v f. absurd (no_set o h v f);
    listed = λ v s f. absurd (let n = found-none b o e h v in cc);
  }

  pub first_added : (b o : Map) (run : List ℕ) (v : ℕ) (q : Map × List ℕ) → found (b, o) v ≡ None → q ≡ added_by (found (b, o) v) o run v → q ≡ (insert o v none, run ++ v ∷ [])
  first_added b o run v q f e = e ∙ ap (λ x. added_by x o run v) f

  pub first_progress : (b o : Map) (run : List ℕ) (v : ℕ) (q : Map × List ℕ) → b ≡ empty → o ≡ empty → run ≡ [] → q ≡ added_by (found (b, o) v) o run v → v < count → InProgress count limit right (b, q.0) q.1
  first_progress b o run v q be oe re qe lt =
      let f = found-none b o be oe v in
      subst (λ (x : Map × List ℕ). InProgress count limit right (b, x.0) x.1) (sym (first_added b o run v q f qe))
      (progress-new count limit right mono fits b o run v (progress-none b o run be oe re) f lt)

  pub first_has : (b o : Map) (run : List ℕ) (v : ℕ) (q : Map × List ℕ) → b ≡ empty → o ≡ empty → run ≡ [] → q ≡ added_by (found (b, o) v) o run v → v < count → HasSet (b, q.0) v
  first_has b o run v q be oe re qe lt =
      let f = found-none b o be oe v in
      subst (λ (x : Map × List ℕ). HasSet (b, x.0) v) (sym (first_added b o run v q f qe)) (has-itself b o v none (found-first b o v f))

-- the loop that adds what was read
pub record Adding (start now : Seen) (run run' ws : List ℕ) (i : ℕ) : Type 0 where
  pub keeps : Keeps start now
  pub same : extended (solved start) (now.work, run') (drop i ws) ≡ extended (solved start) (start.work, run) ws

pub adding-none : (start : Seen) (run ws : List ℕ) → Adding start start run run ws 0
adding-none start run ws = record { keeps = keeps-refl start; same = refl }

pub adding-more : (start now next : Seen) (run run' run'' ws : List ℕ) (i : ℕ) → Adding start now run run' ws i → i < length ws → Keeps now next
    → (next.work, run'') ≡ added_by (found (tables now) (get_or ws i 0)) now.work run' (get_or ws i 0) → Adding start next run run'' ws (i + 1)
adding-more start now next run run' run'' ws i h l k e = record {
  keeps = keeps-trans start now next h.keeps k;
  same =
      ap (λ (p : Map × List ℕ). extended (solved start) p (drop (i + 1) ws)) (e ∙ ap (λ b. added_by (found (b, now.work) (get_or ws i 0)) now.work run' (get_or ws i 0)) (kept_solved start now h.keeps))
      ∙ ap (λ vs. extended (solved start) (now.work, run') vs) (sym (drop-next ws i l)) ∙ h.same;
}

-- equal numbers are of one set
pub same_below : (xs : List Set) (id other : ℕ) → id ≡ other → true ≡ is_below (set_at xs id) (set_at xs other)
same_below xs id other e = sym (ap (λ n. is_below (set_at xs id) (set_at xs n)) (sym e) ∙ (below-refl (set_at xs id)).is)
