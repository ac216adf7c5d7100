-- From what the worklist leaves to what a demand adds.
use Rattle.std.proofs.Common.{◌≡◌, ℕ, List, [], ◌∷◌, refl, sym, ◌∙◌, ap, subst, Bor}
use Rattle.std.specs.Prelude.{Result, Ok, Err, OnOk, OnErr, Option, Some, None, IsSome, IfSome, option_copied}
use Rattle.std.specs.List.{Contains}
use Rattle.std.specs.Ordering.{nat_cmp}
use Rattle.std.specs.Cmp.{nat_cmp_total}
use Rattle.std.specs.FinMap.{get, empty, get-empty, same_map, nat_cmp-IsAntisymmetric}
use Rattle.infer_sets.specs.Sets.{Set}
use Rattle.infer_equations.specs.Assignment.{Assignment, Map, either, overlaid}
use Rattle.infer_equations.specs.Least.{least}
use Rattle.infer_equations.proofs.Overlay.{get-overlaid}
use Rattle.infer_reached.specs.Tables.{found}
use Rattle.infer_reached.specs.InProgress.{HasSet}
use Rattle.infer_reached.specs.Extension.{AllLeast}
use Rattle.infer_lazy.specs.Reach.{Lacking, IsCheap, IsListed, IsSupported, AreSupported}
use Rattle.infer_core.specs.Right.{IsRight}
use Rattle.infer_core.specs.Solving.{Solving, AreApart, IsSolving}
use Rattle.infer_core.specs.Demand.{Gained, Adds, IsDemanded}

some_none : (o : Option Set) (s : Set) → o ≡ None → o ≡ Some s → ⊥
some_none o s e f = cc

is_not : (o : Option Set) → o ≡ None → IsSome o → ⊥
is_not None e h = absurd (let f = h in cc)
is_not (Some s) e h = absurd (let f = e in cc)

first_none : (o p : Option Set) → either o p ≡ None → o ≡ None
first_none None p e = refl
first_none (Some s) p e = absurd (let f = e in cc)

either_swap : (o p : Option Set) → (IsSome p → o ≡ None) → either o p ≡ either p o
either_swap None None h = refl
either_swap None (Some y) h = refl
either_swap (Some x) None h = refl
either_swap (Some x) (Some y) h = absurd (let f = h refl in cc)

second_none : (o p : Option Set) → either o p ≡ None → p ≡ None
second_none None p e = e
second_none (Some s) p e = absurd (let f = e in cc)

either_right : (o p : Option Set) (low s : Set) → ((x : Set) → o ≡ Some x → x ≡ low) → ((x : Set) → p ≡ Some x → x ≡ low) → either o p ≡ Some s → s ≡ low
either_right None p low s f g e = g s e
either_right (Some x) p low s f g e = f s e

either_second : (o p : Option Set) (s : Set) → o ≡ None → p ≡ Some s → either o p ≡ Some s
either_second None p s e h = h
either_second (Some x) p s e h = absurd (let f = e in cc)

either_some : (o p : Option Set) → IsSome p → IsSome (either o p)
either_some None p h = h
either_some (Some x) p h = refl

either_first : (o p : Option Set) → IsSome o → IsSome (either o p)
either_first None p h = absurd (let f = h in cc)
either_first (Some x) p h = refl

some_from : (o p : Option Set) → o ≡ None → IsSome (either o p) → IsSome p
some_from None p e h = h
some_from (Some x) p e h = absurd (let f = e in cc)

first_from : (o p : Option Set) → p ≡ None → IsSome (either o p) → IsSome o
first_from None p e h = absurd (is_not p e h)
first_from (Some x) p e h = refl

some_is : (o : Option Set) (s : Set) → o ≡ Some s → IsSome o
some_is o s e = subst IsSome (sym e) refl

pub found-empty : (b o : Map) (v : ℕ) → o ≡ empty → found (b, o) v ≡ either (get b v) None
unfolding found
found-empty b o v e = ap (λ m. either (get b v) (get m v)) e ∙ ap (λ x. either (get b v) x) (get-empty nat_cmp v)

either_none : (x : Option Set) → either x None ≡ x
either_none None = refl
either_none (Some s) = refl

pub missing_found : (b o b' : Map) (v : ℕ) → b ≡ b' → o ≡ empty → get b' v ≡ None → found (b, o) v ≡ None
missing_found b o b' v be oe e = found-empty b o v oe ∙ either_none (get b v) ∙ ap (λ m. get m v) be ∙ e

module _ (count limit : ℕ) (right : ℕ → Assignment → Set) (reads : ℕ → Assignment → List ℕ) where
  abbrev low : Assignment
  low = least count limit right

  -- two right tables, and none in progress
  pub least_before : (base own b o : Map) → IsRight count limit right base → IsRight count limit right own → b ≡ overlaid base own → o ≡ empty → AllLeast count limit right (b, o)
  least_before base own b o r q be oe = record {
    at = λ v s e.
        either_right (get base v) (get own v) (low v) s (r.at v) (q.at v)
        (sym (get-overlaid base own v) ∙ ap (λ m. get m v) (sym be) ∙ sym (either_none (get b v)) ∙ sym (found-empty b o v oe) ∙ e);
  }

  module _ (base own b work : Map) (start : ℕ) (run : List ℕ) (be : b ≡ overlaid base own) (h : IsListed low reads b work (start ∷ []) run) where
    pub run_apart : (v : ℕ) → Contains run v → get own v ≡ None
    run_apart v c = second_none (get base v) (get own v) (sym (get-overlaid base own v) ∙ ap (λ m. get m v) (sym be) ∙ (h.lacking v c).1)

    work_apart : (v : ℕ) → IsSome (get work v) → get own v ≡ None
    work_apart v has = run_apart v (h.stored v has)

    swapped : overlaid own work ≡ overlaid work own
    swapped = same_map nat_cmp_total nat_cmp-IsAntisymmetric (overlaid own work) (overlaid work own) (λ q.
        get-overlaid own work q ∙ either_swap (get own q) (get work q) (work_apart q) ∙ sym (get-overlaid work own q))

    -- no variable stands in both, so either may come first
    pub ok_swapped : {T F : Type 0} (r : Result T F) (new : Map) → OnOk r (new ≡ overlaid own work) → OnOk r (new ≡ overlaid work own)
    ok_swapped (Ok x) new e = e ∙ swapped
    ok_swapped (Err x) new e = tt

    found_work : (v : ℕ) (s : Set) → get work v ≡ Some s → found (b, work) v ≡ Some s
    unfolding found
    found_work v s e = either_second (get b v) (get work v) s (h.lacking v (h.stored v (some_is (get work v) s e))).1 e

    right_kept : AllLeast count limit right (b, work) → IsRight count limit right own → IsRight count limit right (overlaid work own)
    right_kept all r = record { at = λ v s e. either_right (get work v) (get own v) (low v) s (λ x f. all.at v x (found_work v x f)) (r.at v) (sym (get-overlaid work own v) ∙ e) }

    gets : (new : Map) → new ≡ overlaid work own → (v : ℕ) → get new v ≡ either (get work v) (get own v)
    gets new e v = ap (λ m. get m v) e ∙ get-overlaid work own v

    keeps_by : (new : Map) → new ≡ overlaid work own → (w : ℕ) (s : Set) (x : Option Set) → get work w ≡ x → get own w ≡ Some s → get new w ≡ Some s
    keeps_by new e w s None n f = gets new e w ∙ ap (λ x. either x (get own w)) n ∙ f
    keeps_by new e w s (Some y) n f = absurd (some_none (get own w) s (work_apart w (some_is (get work w) y n)) f)

    gained_work : (new : Map) → new ≡ overlaid work own → (w : ℕ) → Gained own new w → IsSome (get work w)
    gained_work new e w g = first_from (get work w) (get own w) g.0 (subst IsSome (gets new e w) g.1)

    start_has : (new : Map) → new ≡ overlaid work own → HasSet (b, work) start → get b start ≡ None → IsSome (get (overlaid base new) start)
    unfolding found
    start_has new e has none =
        let in_work : IsSome (get work start) = some_from (get b start) (get work start) none (some_is (either (get b start) (get work start)) has.0 has.1) in
        subst IsSome (sym (get-overlaid base new start)) (either_some (get base start) (get new start) (subst IsSome (sym (gets new e start)) (either_first (get work start) (get own start) in_work)))

    apart_at : AreApart base own → (v : ℕ) (x y : Option Set) → get work v ≡ x → get own v ≡ y → IsSome (either x y) → get base v ≡ None
    apart_at a v None y e f has = a.at v (subst IsSome (sym f) has)
    apart_at a v (Some s) y e f has = first_none (get base v) (get own v) (sym (get-overlaid base own v) ∙ ap (λ m. get m v) (sym be) ∙ (h.lacking v (h.stored v (some_is (get work v) s e))).1)

    -- what has a set while the variables are in progress has one afterwards
    has_by : (w : ℕ) (s : Set) (x y z : Option Set) → get base w ≡ x → get own w ≡ y → get work w ≡ z → found (b, work) w ≡ Some s → (r : Option Set) → r ≡ either z y → either x r ≡ Some s
    unfolding found
    has_by w s x y z e f g has r re =
        let is : either (either x y) z ≡ Some s = (λ i. either (either (sym e i) (sym f i)) (sym g i)) ∙ ap (λ m. either m (get work w)) (sym (ap (λ m. get m w) be ∙ get-overlaid base own w)) ∙ has in
        ap (λ o. either x o) re ∙ by_parts x y z (λ some. sym f ∙ work_apart w (subst IsSome (sym g) some)) ∙ is
      where
        by_parts : (x y z : Option Set) → (IsSome z → y ≡ None) → either x (either z y) ≡ either (either x y) z
        by_parts (Some s) y z apart = refl
        by_parts None y None apart = either_none_right y
          where
            either_none_right : (y : Option Set) → y ≡ either y None
            either_none_right None = refl
            either_none_right (Some s) = refl
        by_parts None y (Some t) apart = ap (λ o. either o (Some t)) (sym (apart refl))

    module _ (new : Map) (e : new ≡ overlaid work own) where
      has_after : (w : ℕ) → HasSet (b, work) w → HasSet (base, new) w
      unfolding found
      has_after w has = (has.0, has_by w has.0 (get base w) (get own w) (get work w) refl refl refl has.1 (get new w) (gets new e w))

      has_still : (w : ℕ) → HasSet (base, own) w → HasSet (base, new) w
      unfolding found
      has_still w has = (has.0, still (get base w) (get own w) (get new w) has.1 (λ s f. keeps_by new e w s (get work w) refl f))
        where
          still : (x y z : Option Set) → either x y ≡ Some has.0 → ((s : Set) → y ≡ Some s → z ≡ Some s) → either x z ≡ Some has.0
          still None y z f k = k has.0 f
          still (Some t) y z f k = f

      wider : (P Q : ℕ → Type 0) (right : ℕ → Assignment → Set) (v : ℕ) → ((w : ℕ) → P w → Q w) → IsSupported low right P v → IsSupported low right Q v
      wider P Q right v f s = record { rests = s.rests; there = λ w c. f w (s.there w c); again = s.again }

      rests_at : AreSupported low right b work → AreSupported low right base own → (v : ℕ) (x y : Option Set) → get work v ≡ x → get own v ≡ y → IsSome (either x y) → IsSupported low right (λ w. HasSet (base, new) w) v
      rests_at s t v None y f g has = wider _ _ right v has_still (t.at v (subst IsSome (sym g) has))
      rests_at s t v (Some x) y f g has = wider _ _ right v has_after (s.at v (some_is (get work v) x f))

      solving_kept : AllLeast count limit right (b, work) → AreSupported low right b work → IsSolving count limit right base own → IsSolving count limit right base new
      solving_kept all s q = record {
        base_right = q.base_right;
        solved_right = subst (IsRight count limit right) (sym e) (right_kept all q.solved_right);
        apart = record { at = λ v has. apart_at q.apart v (get work v) (get own v) refl refl (subst IsSome (gets new e v) has) };
        rests = record { at = λ v has. rests_at s q.rests v (get work v) (get own v) refl refl (subst IsSome (gets new e v) has) };
      }

    pub solving_after : {T F : Type 0} (r : Result T F) (new : Map) → AllLeast count limit right (b, work) → AreSupported low right b work → IsSolving count limit right base own → OnOk r (new ≡ overlaid own work) → OnErr r (new ≡ own)
        → IsSolving count limit right base new
    solving_after (Ok x) new all s q ok err = solving_kept new (ok ∙ swapped) all s q
    solving_after (Err x) new all s q ok err = subst (λ m. IsSolving count limit right base m) (sym err) q

    pub adds_after : (new : Map) → new ≡ overlaid work own → HasSet (b, work) start → get b start ≡ None → Adds low reads base own new start
    adds_after new e has none = record {
      keeps = λ w s f. keeps_by new e w s (get work w) refl f;
      reached = λ w g. subst (λ m. Lacking low reads m (start ∷ []) w) be (h.lacking w (h.stored w (gained_work new e w g)));
      has = start_has new e has none;
    }

    pub cheap_after : (new : Map) → new ≡ overlaid work own → (before after : ℕ) → IsCheap limit low reads (λ v. IsSome (get work v)) before after → IsCheap limit low reads (Gained own new) before after
    cheap_after new e before after c vars pairs vs ps =
        let gained = λ (v : ℕ) (has : IsSome (get work v)). let both : Gained own new v = (work_apart v has, subst IsSome (sym (gets new e v)) (either_first (get work v) (get own v) has)) in both in
        c vars pairs (λ v has. vs v (gained v has)) (λ v w hv hw d. ps v w (gained v hv) (gained w hw) d)

    -- a refusal when the solved sets are kept: the steps are those of variables that neither table had
    pub cheap_lacking : (before after : ℕ) → IsCheap limit low reads (λ v. IsSome (get work v)) before after → IsCheap limit low reads (Lacking low reads (overlaid base own) (start ∷ [])) before after
    cheap_lacking before after c vars pairs vs ps =
        let wanted = λ (v : ℕ) (has : IsSome (get work v)). subst (λ m. Lacking low reads m (start ∷ []) v) be (h.lacking v (h.stored v has)) in
        c vars pairs (λ v has. vs v (wanted v has)) (λ v w hv hw d. ps v w (wanted v hv) (wanted w hw) d)

    pub demanded_after : {E T F : Type 0} (e : E) (r : Result T F) (new : Map) (before after : ℕ) → get (overlaid base own) start ≡ None → HasSet (b, work) start → OnOk r (new ≡ overlaid own work) → OnErr r (new ≡ own)
        → IsCheap limit low reads (λ v. IsSome (get work v)) before after
        → IsDemanded limit low reads (record { equations = e; base = base; solved = own }) (record { equations = e; base = base; solved = new }) start before after r
    demanded_after e (Ok x) new before after missing has ok err c = record {
      equations = refl;
      base = refl;
      adds = adds_after new (ok ∙ swapped) has (ap (λ m. get m start) be ∙ missing);
      same = tt;
      cheap = cheap_after new (ok ∙ swapped) before after c;
      cheap_err = tt;
      none_again = λ h. absurd (is_not (get (overlaid base own) start) missing h);
    }
    demanded_after e (Err x) new before after missing has ok err c = record {
      equations = refl;
      base = refl;
      adds = tt;
      same = err;
      cheap = tt;
      cheap_err = cheap_lacking before after c;
      none_again = λ h. absurd (is_not (get (overlaid base own) start) missing h);
    }

  -- the worklist was refused
  pub demanded_err : {E T F : Type 0} (e : E) (x : F) (base own b : Map) (start before after : ℕ) → b ≡ overlaid base own → get (overlaid base own) start ≡ None → IsCheap limit low reads (Lacking low reads b (start ∷ [])) before after
      → IsDemanded {T = T} limit low reads (record { equations = e; base = base; solved = own }) (record { equations = e; base = base; solved = own }) start before after (Err x)
  demanded_err e x base own b start before after be missing c = record {
    equations = refl;
    base = refl;
    adds = tt;
    same = refl;
    cheap = tt;
    cheap_err = subst (λ m. IsCheap limit low reads (Lacking low reads m (start ∷ [])) before after) be c;
    none_again = λ h. absurd (is_not (get (overlaid base own) start) missing h);
  }

-- an answer of another type says the same
pub demanded_ok : {E T U F : Type 0} (x : T) (y : U) (limit : ℕ) (solution : Assignment) (reads : ℕ → Assignment → List ℕ) (old new : Solving E) (start before after : ℕ) → IsDemanded {F = F} limit solution reads old new start before after (Ok x) → IsDemanded {F = F} limit solution reads old new start before after (Ok y)
demanded_ok x y limit solution reads old new start before after d =
    record { equations = d.equations; base = d.base; adds = d.adds; same = tt; cheap = d.cheap; cheap_err = tt; none_again = d.none_again }

-- what two right tables have for a variable is the least solution's
pub known_least : (count limit : ℕ) (right : ℕ → Assignment → Set) (base own : Map) (v : ℕ) (s : Set) → IsRight count limit right base → IsRight count limit right own → Some s ≡ get (overlaid base own) v → s ≡ least count limit right v
known_least count limit right base own v s r q e = either_right (get base v) (get own v) (least count limit right v) s (r.at v) (q.at v) (sym (get-overlaid base own v) ∙ sym e)

pub known_if : (count limit : ℕ) (right : ℕ → Assignment → Set) (base own : Map) (v : ℕ) (r : Option (Bor Set)) → IsRight count limit right base → IsRight count limit right own → option_copied r ≡ get (overlaid base own) v → IfSome r (λ s. s.now ≡ least count limit right v)
known_if count limit right base own v None h k e = tt
known_if count limit right base own v (Some s) h k e = known_least count limit right base own v s.now h k e

-- the same tables by other names
pub solving_same : (count limit : ℕ) (right : ℕ → Assignment → Set) (base own base' own' : Map) → base' ≡ base → own' ≡ own → IsSolving count limit right base own → IsSolving count limit right base' own'
solving_same count limit right base own base' own' be oe h = subst (λ (p : Map × Map). IsSolving count limit right p.0 p.1) (λ i. (sym be i, sym oe i)) h

pub demanded_base : {E T F : Type 0} (limit : ℕ) (solution : Assignment) (reads : ℕ → Assignment → List ℕ) (old : Solving E) (e : E) (base base' own : Map) (start before after : ℕ) (r : Result T F) → base' ≡ base
    → IsDemanded limit solution reads old (record { equations = e; base = base; solved = own }) start before after r → IsDemanded limit solution reads old (record { equations = e; base = base'; solved = own }) start before after r
demanded_base limit solution reads old e base base' own start before after r be h = subst (λ (m : Map). IsDemanded limit solution reads old (record { equations = e; base = m; solved = own }) start before after r) (sym be) h

pub demanded_same : {E T F : Type 0} (count limit : ℕ) (right : ℕ → Assignment → Set) (reads : ℕ → Assignment → List ℕ) (e : E) (x : F) (base own base' own' b : Map) (start before after : ℕ) → base' ≡ base → own' ≡ own
    → b ≡ overlaid base own → get (overlaid base own) start ≡ None → IsCheap limit (least count limit right) reads (Lacking (least count limit right) reads b (start ∷ [])) before after
    → IsDemanded {T = T} limit (least count limit right) reads (record { equations = e; base = base; solved = own }) (record { equations = e; base = base'; solved = own' }) start before after (Err x)
demanded_same {T = T} count limit right reads e x base own base' own' b start before after be oe is missing c =
    subst (λ (p : Map × Map). IsDemanded {T = T} limit (least count limit right) reads (record { equations = e; base = base; solved = own }) (record { equations = e; base = p.0; solved = p.1 }) start before after (Err x)) (λ i. (sym be i, sym oe i))
    (demanded_err count limit right reads e x base own b start before after is missing c)

pub ok_from : {T F : Type 0} (r : Result T F) (new own own' work : Map) → own' ≡ own → OnOk r (new ≡ overlaid own' work) → OnOk r (new ≡ overlaid own work)
ok_from (Ok x) new own own' work e h = h ∙ ap (λ m. overlaid m work) e
ok_from (Err x) new own own' work e h = tt

pub err_from : {T F : Type 0} (r : Result T F) (new own own' : Map) → own' ≡ own → OnErr r (new ≡ own') → OnErr r (new ≡ own)
err_from (Ok x) new own own' e h = tt
err_from (Err x) new own own' e h = h ∙ e
