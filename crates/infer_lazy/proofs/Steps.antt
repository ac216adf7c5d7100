-- A step of the worklist.
use Rattle.std.proofs.Common.{◌≡◌, ℕ, zero, suc, ◌+◌, ◌-◌, ◌*◌, ◌<◌, ◌≤◌, Bool, true, false, cond, ◌⊎◌, inl, inr, List, [], ◌∷◌, ◌++◌, length, refl, sym, ◌∙◌, ap, subst, arith, length-append}
use Rattle.std.proofs.lemmas.Bool.Decides.{nat_tests}
use Rattle.std.proofs.lemmas.List.Elements.{Contains-append_left, Contains-append_right, Contains-append_cases, Contains-push, Contains-push_cases, All-contains}
use Rattle.std.proofs.lemmas.Map.Keys.{IsDistinct-push, IsDistinct-from_apart}
use Rattle.std.proofs.lemmas.Map.Made.{length-le_from_is_member}
use Rattle.std.specs.Prelude.{IsSome, Result, Ok, Err, OnErr, Option, Some, None, ◌==◌, nat_eq, slice_index, slice_index_or}
use Rattle.std.specs.List.{All, Contains, IsDistinct, sum_by}
use Rattle.std.specs.Cmp.{nat_eq_equiv}
use Rattle.std.specs.FinMap.{insert, get, empty}
use Rattle.infer_sets.specs.Sets.{Set, none, is_below, Below, Fits, rank}
use Rattle.infer_sets.proofs.SetOrder.{below-antisym, below-none, fits-none, rank-le, rank-most}
use Rattle.infer_equations.specs.Assignment.{Assignment, Map, Within, AllFit, Agree, or_none}
use Rattle.infer_equations.specs.Least.{least}
use Rattle.infer_reached.specs.Tables.{found, assigned}
use Rattle.infer_reached.specs.Settled.{IsSettled}
use Rattle.infer_reached.specs.InProgress.{HasSet, InProgress}
use Rattle.infer_reached.specs.Extension.{extended, added_by, WasRead, AllLeast}
use Rattle.infer_lazy.specs.Reach.{Dep, Reach, start, on, IsCheap, Lacking, IsListed, IsSupported, AreSupported}
use Rattle.infer_lazy.specs.Pairs.{pair_cmp, readers}
use Rattle.infer_lazy.specs.Waiting.{with_places, places}
use Rattle.infer_lazy.specs.Worklist.{paired, Known, Lazy, credit}
use Rattle.infer_lazy.proofs.Members.{head-in, tail-in, cons-cases, any_from}
use Rattle.infer_lazy.proofs.Places.{Waits, waits-more, places-has, places-in, length-places, in-at, at-in, at-front, at-any, at-apart}
use Rattle.infer_lazy.proofs.Readers.{Paired, paired-all, readers-has, readers-in, readers-cost, sum-most, few-pairs}
use Rattle.std.specs.List.Sorted.{IsStrictlySortedBy}
use Rattle.infer_equations.proofs.Rounds.{Monotone, Limited, below-eq, least-fits}
use Rattle.infer_reached.proofs.SettledIsLeast.{settled_is_least}
use Rattle.infer_reached.proofs.Progress.{test_same, test_itself, progress-new, found-first, progress-raise, raise-within, has-insert, has-itself, assigned-insert, less_by}
use Rattle.infer_reached.proofs.Extension.{Extends, assigned-apart, assigned_at, own_has, none_some, any_contains, extends_as, extends_has, read-in_range, no_run, no_set}

test_by : (z v : ℕ) (c : Bool) → (z == v) ≡ c → (z ≡ v → ⊥) → c ≡ false
test_by z v true e n = absurd (n (test_same z v e))
test_by z v false e n = refl

test_apart : (z v : ℕ) → (z ≡ v → ⊥) → (z == v) ≡ false
test_apart z v n = test_by z v (z == v) refl n

reads_by : (v k : ℕ) (ks : List ℕ) (c : Bool) → (k == v) ≡ c → Contains ks v ⊎ (Contains ks v → ⊥) → Contains (k ∷ ks) v ⊎ (Contains (k ∷ ks) v → ⊥)
reads_by v k ks true e m = inl (subst (λ x. Contains (k ∷ ks) x) (test_same k v e) (head-in k ks))
reads_by v k ks false e (inl c) = inl (tail-in k ks v c)
reads_by v k ks false e (inr never) = inr (λ c. elim (cons-cases k ks v c) [ inl is ↦ let t : (k == v) ≡ true = ap (λ x. x == v) is ∙ test_itself v in absurd (cc) | inr d ↦ never d ])

reads_it : (v : ℕ) (ks : List ℕ) → Contains ks v ⊎ (Contains ks v → ⊥)
reads_it v [] = inr (λ c. let l = c.1 in omega arith)
reads_it v (k ∷ ks) = reads_by v k ks (k == v) refl (reads_it v ks)

apart_from : (u v : ℕ) → (u == v) ≡ false → u ≡ v → ⊥
apart_from u v e is = let t : (u == v) ≡ true = ap (λ x. x == v) is ∙ test_itself v in cc

low_or_high : (i n : ℕ) → (i < n) ⊎ (n ≤ i)
low_or_high zero zero = inr (omega arith)
low_or_high zero (suc n) = inl (omega arith)
low_or_high (suc i) zero = inr (omega arith)
low_or_high (suc i) (suc n) = elim (low_or_high i n) [ inl l ↦ inl (omega arith) | inr l ↦ inr (omega arith) ]

module _ (count limit : ℕ) (right : ℕ → Assignment → Set) (reads : ℕ → Assignment → List ℕ) (mono : Monotone count right) (fits : Limited count limit right) (b : Map) (starts : List ℕ) where
  -- the facts after a step: the variable has the set s, the others theirs, and who reads it waits, or it had that set before
  pub record After (o : Map) (run rest : List ℕ) (v : ℕ) (s : Set) (q : Map × List ℕ) (qs : List (ℕ × ℕ)) (o' : Map) (waits : List ℕ) : Type 0 where
    pub progress : InProgress count limit right (b, o') q.1
    pub itself : assigned (b, o') v ≡ s
    pub others : (z : ℕ) → (z ≡ v → ⊥) → assigned (b, o') z ≡ assigned (b, o) z
    pub keeps : (z : ℕ) → HasSet (b, q.0) z → HasSet (b, o') z
    pub told : (assigned (b, o) v ≡ s) ⊎ ((i : ℕ) → Contains (readers v qs) i → Contains waits i)
    pub rest_waits : (i : ℕ) → Contains rest i → Contains waits i
    pub more_waits : (i : ℕ) → length run ≤ i → i < length q.1 → Contains waits i
    pub waiting : (i : ℕ) → Contains waits i → Contains rest i ⊎ (i < length q.1) ⊎ Contains (readers v qs) i

  module _ (o : Map) (run rest : List ℕ) (p : ℕ) (pairs : List (ℕ × ℕ)) (h : Lazy count limit right reads b o starts run (rest ++ p ∷ []) pairs)
      (v : ℕ) (ve : slice_index run p ≡ v)
      (s : Set) (noted : List ℕ) (r : WasRead (right v) (reads v) (b, o) noted s)
      (q : Map × List ℕ) (w : Extends count limit right mono fits b (o, run) noted q)
      (qs : List (ℕ × ℕ)) (ps : Paired q.0 p noted pairs qs)
      (o' : Map) (waits : List ℕ) (a : After o run rest v s q qs o' waits) where
    p_in : p < length run
    p_in = h.waiting p (Contains-push rest p)

    v_run : Contains run v
    v_run = subst (λ x. Contains run x) ve (in-at run p p_in)

    lift : (u : ℕ) → Contains run u → Contains q.1 u
    lift u c = subst (λ xs. Contains xs u) (sym w.run) (Contains-append_left run w.more u c)

    split : (u : ℕ) → Contains q.1 u → Contains run u ⊎ Contains w.more u
    split u c = Contains-append_cases run w.more u (subst (λ xs. Contains xs u) w.run c)

    in_longer : (i : ℕ) → i < length run → i < length q.1
    in_longer i l = let e = ap length w.run in omega (arith, length-append run w.more)

    same_at : (i : ℕ) → i < length run → slice_index q.1 i ≡ slice_index run i
    same_at i l = ap (λ xs. slice_index xs i) w.run ∙ at-front run w.more i l

    v_at : slice_index q.1 p ≡ v
    v_at = same_at p p_in ∙ ve

    old_pair : (i z : ℕ) → Contains pairs (z, i) → Contains qs (z, i)
    old_pair i z c = ps.keeps (z, i) c

    dep : (z : ℕ) → Contains noted z → Dep (least count limit right) reads v z
    dep z c = record { at = assigned (b, o); within = h.progress.within; read = All-contains (λ x. Contains (reads v (assigned (b, o))) x) noted z r.within c }

    same_back : (read : List ℕ) → (assigned (b, o) v ≡ s) ⊎ (Contains read v → ⊥) → (f : Assignment) → Agree read (assigned (b, o')) f → Agree read (assigned (b, o)) f
    same_back read why f same = record { at = λ z c. back_by z (z == v) refl why c ∙ same.at z c }
      where
        back_by : (z : ℕ) (c : Bool) → (z == v) ≡ c → (assigned (b, o) v ≡ s) ⊎ (Contains read v → ⊥) → Contains read z → assigned (b, o) z ≡ assigned (b, o') z
        back_by z true e (inl stays) d = ap (λ x. assigned (b, o) x) (test_same z v e) ∙ stays ∙ sym a.itself ∙ ap (λ x. assigned (b, o') x) (sym (test_same z v e))
        back_by z true e (inr never) d = absurd (never (subst (λ x. Contains read x) (test_same z v e) d))
        back_by z false e why d = sym (a.others z (apart_from z v e))

    -- v did not have s before: then it waits, or it did not read itself
    known_v : Contains waits p ⊎ Known right (b, o') q.1 qs p
    known_v = elim a.told [
      | inl stays ↦ inr (it (inl stays))
      | inr told ↦ elim (reads_it v noted) [
        | inl c ↦ inl (told p (readers-has v p qs (ps.has v c (stored_some v (lift v v_run)))))
        | inr never ↦ inr (it (inr never))
      ]
    ]
      where
        stored_some : (z : ℕ) → Contains q.1 z → IsSome (get q.0 z)
        stored_some z c = own_has count limit right mono fits b q.0 q.1 z w.progress c

        it : (assigned (b, o) v ≡ s) ⊎ (Contains noted v → ⊥) → Known right (b, o') q.1 qs p
        it why = record {
          read = noted;
          there = λ z c. a.keeps z (w.has z c);
          again = λ f same. ap (λ x. right x f) v_at ∙ r.local f (same_back noted why f same) ∙ sym a.itself ∙ ap (λ x. assigned (b, o') x) (sym v_at);
          paired = λ z c d. ps.has z c (stored_some z d);
        }

    known_other : (i : ℕ) → (i ≡ p → ⊥) → i < length run → Contains waits i ⊎ Known right (b, o') q.1 qs i
    known_other i apart l = elim (h.known i l) [
      | inl wait ↦ elim (Contains-push_cases rest p i wait) [ inl d ↦ inl (a.rest_waits i d) | inr is ↦ absurd (apart (sym is)) ]
      | inr k ↦ elim a.told [
        | inl stays ↦ inr (it k (inl stays))
        | inr told ↦ elim (reads_it v k.read) [
          | inl d ↦ inl (told i (readers-has v i qs (old_pair i v (k.paired v d v_run))))
          | inr never ↦ inr (it k (inr never))
        ]
      ]
    ]
      where
        in_run : (z : ℕ) → HasSet (b, o) z → Contains run z ⊎ Contains w.more z → Contains run z
        in_run z has (inl d) = d
        in_run z has (inr d) = absurd (none_some (found (b, o) z) has.0 (w.new z d) has.1)

        u : ℕ
        u = slice_index run i

        it : (k : Known right (b, o) run pairs i) → (assigned (b, o) v ≡ s) ⊎ (Contains k.read v → ⊥) → Known right (b, o') q.1 qs i
        it k why = record {
          read = k.read;
          there = λ z d. a.keeps z (w.keeps z (k.there z d));
          again = λ f same.
              ap (λ x. right x f) (same_at i l) ∙ k.again f (same_back k.read why f same)
              ∙ sym (a.others (slice_index run i) (λ is. at-apart run h.distinct i p l p_in apart (is ∙ sym ve)))
              ∙ ap (λ x. assigned (b, o') x) (sym (same_at i l));
          paired = λ z d e. old_pair i z (k.paired z d (in_run z (k.there z d) (split z e)));
        }

    known_all : (i : ℕ) → (c : Bool) → (i == p) ≡ c → i < length q.1 → (i < length run) ⊎ (length run ≤ i) → Contains waits i ⊎ Known right (b, o') q.1 qs i
    known_all i c e l (inr high) = inl (a.more_waits i high l)
    known_all i true e l (inl low) = subst (λ x. Contains waits x ⊎ Known right (b, o') q.1 qs x) (sym (test_same i p e)) known_v
    known_all i false e l (inl low) = known_other i (apart_from i p e) low

    pairs_all : (i z : ℕ) → Contains pairs (z, i) ⊎ ((i ≡ p) × Contains noted z × IsSome (get q.0 z)) → (i < length q.1) × Contains q.1 z × Dep (least count limit right) reads (slice_index q.1 i) z
    pairs_all i z (inl c) = let d = h.pairs_in i z c in (in_longer i d.0, lift z d.1, subst (λ x. Dep (least count limit right) reads x z) (sym (same_at i d.0)) d.2)
    pairs_all i z (inr n) =
        (subst (λ x. x < length q.1) (sym n.0) (in_longer p p_in), w.progress.stored z n.2, subst (λ x. Dep (least count limit right) reads x z) (sym (ap (λ x. slice_index q.1 x) n.0 ∙ v_at)) (dep z n.1))

    reached_all : (u : ℕ) → Contains run u ⊎ Contains w.more u → Reach (least count limit right) reads starts u
    reached_all u (inl c) = h.reached u c
    reached_all u (inr c) = on (h.reached v v_run) (dep u (w.from u c))

    waiting_all : (i : ℕ) → Contains rest i ⊎ (i < length q.1) ⊎ Contains (readers v qs) i → i < length q.1
    waiting_all i (inl c) = in_longer i (h.waiting i (Contains-append_left rest (p ∷ []) i c))
    waiting_all i (inr (inl l)) = l
    waiting_all i (inr (inr c)) = (pairs_all i v (ps.new i v (readers-in v i qs c))).0

    -- one step
    pub lazy_step : Lazy count limit right reads b o' starts q.1 waits qs
    lazy_step = record {
      progress = a.progress;
      known = λ i l. known_all i (i == p) refl l (low_or_high i (length run));
      waiting = λ i c. waiting_all i (a.waiting i c);
      pairs_in = λ i z c. pairs_all i z (ps.new i z c);
      reached = λ u c. reached_all u (split u c);
      distinct = w.apart h.distinct;
      ordered = ps.ordered h.ordered;
    }

module _ (count limit : ℕ) (right : ℕ → Assignment → Set) (reads : ℕ → Assignment → List ℕ) (mono : Monotone count right) (fits : Limited count limit right) (b : Map) (starts : List ℕ)
    (o : Map) (run : List ℕ) (pairs : List (ℕ × ℕ)) (h : Lazy count limit right reads b o starts run [] pairs) where
  -- nothing waits: what is known of a variable in progress, by its place
  pub record KnownHere (v : ℕ) : Type 0 where
    pub read : List ℕ
    pub there : (w : ℕ) → Contains read w → HasSet (b, o) w
    pub again : (q : Assignment) → Agree read (assigned (b, o)) q → right v q ≡ assigned (b, o) v

  known_by : (v i : ℕ) → slice_index run i ≡ v → Contains [] i ⊎ Known right (b, o) run pairs i → KnownHere v
  known_by v i e (inl wait) = absurd (let l = wait.1 in omega arith)
  known_by v i e (inr k) = record {
    read = k.read;
    there = k.there;
    again = λ q same. ap (λ x. right x q) (sym e) ∙ k.again q same ∙ ap (λ x. assigned (b, o) x) e;
  }

  known_here : (v : ℕ) → Contains run v → KnownHere v
  known_here v c = let a = at-in run v c in known_by v a.0 a.2 (h.known a.0 a.1)

  settled : (v : ℕ) (s : Set) → found (b, o) v ≡ Some s → (s ≡ least count limit right v) ⊎ Contains run v → IsSettled right (least count limit right) (b, o) v s
  settled v s e (inl is) = inl is
  settled v s e (inr c) = let k = known_here v c in inr (record { read = k.read; there = k.there; again = λ p same. k.again p same ∙ assigned_at (b, o) v s e })

  -- nothing waits: each set is that of the least solution
  pub lazy_done : AllLeast count limit right (b, o)
  lazy_done = record { at = settled_is_least count limit right mono fits (b, o) h.progress.within (λ v s e. settled v s e (h.progress.listed v s e)) }

  least_at : (w : ℕ) → HasSet (b, o) w → assigned (b, o) w ≡ least count limit right w
  least_at w has = assigned_at (b, o) w has.0 has.1 ∙ lazy_done.at w has.0 has.1

  supported_by : (v : ℕ) → Contains run v → IsSupported (least count limit right) right (λ w. HasSet (b, o) w) v
  supported_by v c = let k = known_here v c in record {
    rests = k.read;
    there = k.there;
    again = λ q same. k.again q (record { at = λ w d. least_at w (k.there w d) ∙ same.at w d }) ∙ least_at v (h.progress.there v c);
  }

  -- nothing waits: each variable rests on what it read
  pub lazy_supported : AreSupported (least count limit right) right b o
  lazy_supported = record { at = λ v has. supported_by v (h.progress.stored v has) }

-- what the steps may still cost
pub credit-step : (limit : ℕ) (t t' : Map × Map) (run more run' : List ℕ) (ps qs : List (ℕ × ℕ)) (n rest extra : ℕ)
    → run' ≡ run ++ more → ((f : ℕ → ℕ) → sum_by (λ p. f p.0) ps ≤ sum_by (λ p. f p.0) qs)
    → sum_by (λ p. rank limit (assigned t p.0)) qs + extra ≤ sum_by (λ p. rank limit (assigned t' p.0)) qs
    → n ≤ rest + length more + extra
    → n + credit limit t run ps ≤ rest + credit limit t' run' qs
unfolding credit
credit-step limit t t' run more run' ps qs n rest extra e sums s h =
    let l : length run' ≡ length run + length more = ap length e ∙ length-append run more in
    let m = sums (λ w. rank limit (assigned t w)) in
    omega arith

-- the steps of a demand are few
times_le : (a c k : ℕ) → a ≤ c → a * k ≤ c * k
times_le a c k h = grind arith

pub few-vars : (run vars : List ℕ) → IsDistinct nat_eq run → ((v : ℕ) → Contains run v → Contains vars v) → length run ≤ length vars
few-vars run vars d all = length-le_from_is_member nat_eq_equiv run vars d (λ q m. any_from nat_eq test_itself q vars (all q (any_contains q run m)))

pub credit-most : (limit : ℕ) (t : Map × Map) (run vars : List ℕ) (ps pairs : List (ℕ × ℕ)) → AllFit limit (assigned t) → length run ≤ length vars → length ps ≤ length pairs → credit limit t run ps ≤ length vars + (limit + 2) * length pairs
unfolding credit
credit-most limit t run vars ps pairs fit a c =
    let m = sum-most (λ w. rank limit (assigned t w)) (limit + 1) (λ w. rank-most limit (assigned t w) (fit.at w)) ps in
    let n = times_le (length ps) (length pairs) (limit + 1) c in
    omega arith

module _ (count limit : ℕ) (right : ℕ → Assignment → Set) (reads : ℕ → Assignment → List ℕ) (mono : Monotone count right) (fits : Limited count limit right) (b : Map) (starts : List ℕ)
    (o : Map) (run rest : List ℕ) (p : ℕ) (pairs : List (ℕ × ℕ)) (h : Lazy count limit right reads b o starts run (rest ++ p ∷ []) pairs)
    (v : ℕ) (ve : slice_index run p ≡ v)
    (s : Set) (noted : List ℕ) (r : WasRead (right v) (reads v) (b, o) noted s)
    (q : Map × List ℕ) (w : Extends count limit right mono fits b (o, run) noted q)
    (qs : List (ℕ × ℕ)) (ps : Paired q.0 p noted pairs qs) where
  run_v : Contains run v
  run_v = subst (λ x. Contains run x) ve (in-at run p (h.waiting p (Contains-push rest p)))

  longer : length q.1 ≡ length run + length w.more
  longer = ap length w.run ∙ length-append run w.more

  -- the places of the variables that were added
  abbrev added : List ℕ
  added = places (length run) (length q.1 - length run)

  added-has : (i : ℕ) → length run ≤ i → i < length q.1 → Contains added i
  added-has i l m = let e = longer in places-has (length run) (length q.1 - length run) i l (omega arith)

  added-in : (i : ℕ) → Contains added i → i < length q.1
  added-in i c = let e = longer in let l = (places-in (length run) (length q.1 - length run) i c).1 in omega arith

  added-many : length added ≡ length w.more
  added-many = let e = longer in length-places (length run) (length q.1 - length run) ∙ minus (length q.1) (length run) (length w.more) e
    where
      minus : (n m k : ℕ) → n ≡ m + k → n - m ≡ k
      minus n m k e = omega arith

  waits_added : Waits rest added (with_places rest added)
  waits_added = waits-more rest added

  waits_woken : Waits (with_places rest added) (readers v qs) (with_places (with_places rest added) (readers v qs))
  waits_woken = waits-more (with_places rest added) (readers v qs)

  run'_v : Contains q.1 v
  run'_v = subst (λ xs. Contains xs v) (sym w.run) (Contains-append_left run w.more v run_v)

  apart_v : get b v ≡ None
  apart_v = w.progress.apart v run'_v

  value : s ≡ right v (assigned (b, q.0))
  value = r.value ∙ ap (λ a. right v a) (sym w.same)

  has_v : HasSet (b, q.0) v
  has_v = w.progress.there v run'_v

  here : or_none (get q.0 v) ≡ assigned (b, q.0) v
  here = sym (assigned-apart b q.0 v apart_v)

  abbrev Stepped : Map → List ℕ → Type 0
  Stepped o' waits = After count limit right reads mono fits b starts o run rest v s q qs o' waits × (length waits + credit limit (b, o) run pairs ≤ length rest + credit limit (b, o') q.1 qs)

  stepped_same : is_below s (or_none (get q.0 v)) ≡ true → Stepped q.0 (with_places rest added)
  stepped_same e =
      let below : Below s (assigned (b, q.0) v) = record { is = ap (λ x. is_below s x) (sym here) ∙ e } in
      let is : s ≡ assigned (b, o) v = below-antisym s (assigned (b, o) v) (subst (λ a. Below s (a v)) w.same below) (subst (λ x. Below (assigned (b, o) v) x) (sym r.value) (h.progress.rising v run_v)) in
      let at = ap (λ (a : Assignment). a v) w.same in
      let equal : sum_by (λ p. rank limit (assigned (b, o) p.0)) qs + 0 ≤ sum_by (λ p. rank limit (assigned (b, q.0) p.0)) qs =
      subst (λ (a : Assignment). sum_by (λ (p : ℕ × ℕ). rank limit (a p.0)) qs + 0 ≤ sum_by (λ p. rank limit (assigned (b, q.0) p.0)) qs) w.same (omega arith) in (
        record {
          progress = w.progress;
          itself = at ∙ sym is;
          others = λ z n. ap (λ (a : Assignment). a z) w.same;
          keeps = λ z k. k;
          told = inl (sym is);
          rest_waits = waits_added.keeps;
          more_waits = λ i l m. waits_added.has i (added-has i l m);
          waiting = λ i c. elim (waits_added.only i c) [ inl d ↦ inl d | inr d ↦ inr (inl (added-in i d)) ];
        },
        credit-step limit (b, o) (b, q.0) run w.more q.1 pairs qs (length (with_places rest added)) (length rest) 0 w.run ps.sums equal
            (let k = waits_added.few in let n = added-many in omega arith),
      )

  stepped_rises : is_below s (or_none (get q.0 v)) ≡ false → Stepped (insert q.0 v s) (with_places (with_places rest added) (readers v qs))
  stepped_rises e =
      let o' = insert q.0 v s in
      let up = raise-within count limit right mono fits b q.0 q.1 v s w.progress run'_v value in
      let after = progress-raise count limit right mono fits b q.0 q.1 v s w.progress run'_v value in
      let up' : Within (assigned (b, o)) (assigned (b, o')) = subst (λ a. Within a (assigned (b, o'))) w.same up in
      let itself : assigned (b, o') v ≡ s = assigned-insert b q.0 v s v apart_v ∙ ap (λ c. cond c s (assigned (b, q.0) v)) (test_itself v) in
      let le : (z : ℕ) → rank limit (assigned (b, o) z) ≤ rank limit (assigned (b, o') z) = λ z. (rank-le limit _ _ (up'.at z) (h.progress.fits.at z) (after.fits.at z)).0 in
      let strict : (rank limit (assigned (b, o') v) ≤ rank limit (assigned (b, o) v) → ⊥) = λ m.
      let same : assigned (b, o) v ≡ assigned (b, o') v = (rank-le limit _ _ (up'.at v) (h.progress.fits.at v) (after.fits.at v)).1 m in
      let below : Below s (assigned (b, o) v) = below-eq s (assigned (b, o) v) (sym itself ∙ sym same) in
      let t : is_below s (or_none (get q.0 v)) ≡ true = ap (λ x. is_below s x) (here ∙ ap (λ (a : Assignment). a v) w.same) ∙ below.is in
      absurd (cc) in
      let lv = le v in
      let lt : rank limit (assigned (b, o) v) < rank limit (assigned (b, o') v) = less_by (rank limit (assigned (b, o) v)) (rank limit (assigned (b, o') v)) lv strict in (
        record {
          progress = after;
          itself = itself;
          others = λ z n. assigned-insert b q.0 v s z apart_v ∙ ap (λ c. cond c s (assigned (b, q.0) z)) (test_apart z v n) ∙ ap (λ (a : Assignment). a z) w.same;
          keeps = λ z k. has-insert b q.0 v s z apart_v k;
          told = inr waits_woken.has;
          rest_waits = λ i c. waits_woken.keeps i (waits_added.keeps i c);
          more_waits = λ i l m. waits_woken.keeps i (waits_added.has i (added-has i l m));
          waiting = λ i c. elim (waits_woken.only i c) [
            | inl d ↦ elim (waits_added.only i d) [ inl e ↦ inl e | inr e ↦ inr (inl (added-in i e)) ]
            | inr d ↦ inr (inr d)
          ];
        },
        credit-step limit (b, o) (b, o') run w.more q.1 pairs qs (length (with_places (with_places rest added) (readers v qs))) (length rest) (length (readers v qs)) w.run ps.sums
            (readers-cost v (λ z. rank limit (assigned (b, o) z)) (λ z. rank limit (assigned (b, o') z)) le lt qs)
            (let k = waits_added.few in let m = waits_woken.few in let n = added-many in omega arith),
      )

  stepped_by : (c : Bool) → is_below s (or_none (get q.0 v)) ≡ c → Stepped (cond c q.0 (insert q.0 v s)) (cond c (with_places rest added) (with_places (with_places rest added) (readers v qs)))
  stepped_by true e = stepped_same e
  stepped_by false e = stepped_rises e

  -- one step of the worklist, as the code takes it
  pub stepped : (waited : List ℕ) → waited ≡ with_places rest added → (o' : Map) → o' ≡ cond (is_below s (or_none (get q.0 v))) q.0 (insert q.0 v s)
      → (waits : List ℕ) → waits ≡ cond (is_below s (or_none (get q.0 v))) waited (with_places waited (readers v qs))
      → Lazy count limit right reads b o' starts q.1 waits qs × (length waits + credit limit (b, o) run pairs ≤ length rest + credit limit (b, o') q.1 qs) × ((z : ℕ) → HasSet (b, o) z → HasSet (b, o') z)
  stepped waited we o' oe waits wse =
      let c = is_below s (or_none (get q.0 v)) in
      let all : Stepped o' waits = subst (λ x. Stepped x waits) (sym oe) (subst (λ y. Stepped (cond c q.0 (insert q.0 v s)) y) (sym (wse ∙ ap (λ x. cond c x (with_places x (readers v qs))) we)) (stepped_by c refl)) in
      (lazy_step count limit right reads mono fits b starts o run rest p pairs h v ve s noted r q w qs ps o' waits all.0, all.1, λ z k. all.0.keeps z (w.keeps z k))

module _ (count limit : ℕ) (right : ℕ → Assignment → Set) (reads : ℕ → Assignment → List ℕ) (mono : Monotone count right) (fits : Limited count limit right) (b : Map) (starts : List ℕ)
    (o : Map) (run rest : List ℕ) (p : ℕ) (pairs : List (ℕ × ℕ)) (h : Lazy count limit right reads b o starts run (rest ++ p ∷ []) pairs) where
  pub step_place : p < length run
  step_place = h.waiting p (Contains-push rest p)

  module _ (v : ℕ) (here : v ≡ slice_index_or run p v) where
    ve : slice_index run p ≡ v
    ve = at-any run p v step_place ∙ sym here

    step_run : Contains run v
    step_run = subst (λ x. Contains run x) ve (in-at run p step_place)

    pub step_in_range : v < count
    step_in_range = h.progress.counted v step_run

    module _ (few : All (λ w. w < count) (reads v (assigned (b, o)))) (s : Set) (noted : List ℕ) (r : WasRead (right v) (reads v) (b, o) noted s)
        (q : Map × List ℕ) (ws : List ℕ) (qe : q ≡ extended b (o, run) ws) (we : ws ≡ noted) where
      extends_here : Extends count limit right mono fits b (o, run) noted q
      extends_here = extends_as count limit right mono fits b (o, run) q noted ws qe we
          (read-in_range count limit right mono fits b (reads v (assigned (b, o))) noted r.within few) h.progress

      pub step_has : IsSome (get q.0 v)
      step_has = extends_has count limit right mono fits b (o, run) q noted v step_run extends_here

      pub step_longer : (n m : ℕ) → n ≡ length run → m ≡ length q.1 → n ≤ m
      step_longer n m e f = let l = ap length extends_here.run in omega (arith, length-append run extends_here.more)

      pub step_done : (n m : ℕ) → n ≡ length run → m ≡ length q.1 → (waited : List ℕ) → waited ≡ with_places rest (places n (m - n)) → (vs : List ℕ) → vs ≡ noted → (qs : List (ℕ × ℕ)) → qs ≡ paired q.0 p vs pairs
          → (o' : Map) → o' ≡ cond (is_below s (or_none (get q.0 v))) q.0 (insert q.0 v s)
          → (waits : List ℕ) → waits ≡ cond (is_below s (or_none (get q.0 v))) waited (with_places waited (readers v qs))
          → Lazy count limit right reads b o' starts q.1 waits qs × (length waits + credit limit (b, o) run pairs ≤ length rest + credit limit (b, o') q.1 qs) × ((z : ℕ) → HasSet (b, o) z → HasSet (b, o') z)
      step_done n m ne me waited waitede vs vse qs qse o' oe waits wse =
          let ps : Paired q.0 p noted pairs qs = subst (λ x. Paired q.0 p noted pairs x) (sym (qse ∙ ap (λ x. paired q.0 p x pairs) vse)) (paired-all q.0 p noted pairs) in
          stepped count limit right reads mono fits b starts o run rest p pairs h v ve s noted r q extends_here qs ps
          waited (waitede ∙ (λ i. with_places rest (places (ne i) (me i - ne i)))) o' oe waits wse

none_ordered : IsStrictlySortedBy pair_cmp []
unfolding IsStrictlySortedBy
none_ordered = tt

no_pair : (ps : List (ℕ × ℕ)) → ps ≡ [] → (p : ℕ × ℕ) → Contains ps p → ⊥
no_pair ps e p c = let l = ap length e in let h = c.1 in omega arith

less_than : (v n : ℕ) → (v == n) ≡ false → v < suc n → v < n
less_than v n e h = grind (arith, nat_tests)

-- all variables and all pairs below a number
upto : ℕ → List ℕ
upto zero = []
upto (suc n) = n ∷ upto n

row : ℕ → ℕ → List (ℕ × ℕ)
row v zero = []
row v (suc n) = (v, n) ∷ row v n

grid : ℕ → ℕ → List (ℕ × ℕ)
grid zero n = []
grid (suc m) n = row m n ++ grid m n

length-upto : (n : ℕ) → length (upto n) ≡ n
unfolding upto
length-upto zero = refl
length-upto (suc n) = ap suc (length-upto n)

length-row : (v n : ℕ) → length (row v n) ≡ n
unfolding row
length-row v zero = refl
length-row v (suc n) = ap suc (length-row v n)

length-grid : (m n : ℕ) → length (grid m n) ≡ m * n
unfolding grid
length-grid zero n = omega arith
length-grid (suc m) n = let a = length-append (row m n) (grid m n) in let c = length-row m n in let d = length-grid m n in omega arith

below-suc : (v n : ℕ) (c : Bool) → (v == n) ≡ c → v < suc n → (v ≡ n) ⊎ (v < n)
below-suc v n true e h = inl (test_same v n e)
below-suc v n false e h = inr (less_than v n e h)

in-upto : (n v : ℕ) → v < n → Contains (upto n) v
unfolding upto
in-upto zero v h = absurd (omega arith)
in-upto (suc n) v h = elim (below-suc v n (v == n) refl h) [ inl is ↦ subst (λ x. Contains (n ∷ upto n) x) (sym is) (head-in n (upto n)) | inr l ↦ tail-in n (upto n) v (in-upto n v l) ]

in-row : (u n v : ℕ) → v < n → Contains (row u n) (u, v)
unfolding row
in-row u zero v h = absurd (omega arith)
in-row u (suc n) v h = elim (below-suc v n (v == n) refl h) [ inl is ↦ subst (λ x. Contains ((u, n) ∷ row u n) (u, x)) (sym is) (head-in (u, n) (row u n)) | inr l ↦ tail-in (u, n) (row u n) (u, v) (in-row u n v l) ]

in-grid : (m n u v : ℕ) → u < m → v < n → Contains (grid m n) (u, v)
unfolding grid
in-grid zero n u v h l = absurd (omega arith)
in-grid (suc m) n u v h l = elim (below-suc u m (u == m) refl h) [
  | inl is ↦ Contains-append_left (row m n) (grid m n) (u, v) (subst (λ x. Contains (row m n) (x, v)) (sym is) (in-row m n v l))
  | inr k ↦ Contains-append_right (row m n) (grid m n) (u, v) (in-grid m n u v k l)
]

pub most_steps : ℕ → ℕ → ℕ
most_steps count limit = length (upto count) + (limit + 2) * length (grid count count)

module _ (count limit : ℕ) (right : ℕ → Assignment → Set) (reads : ℕ → Assignment → List ℕ) (mono : Monotone count right) (fits : Limited count limit right) (b : Map) (starts : List ℕ)
    (o : Map) (run waits : List ℕ) (pairs : List (ℕ × ℕ)) (h : Lazy count limit right reads b o starts run waits pairs) where
  pub credit-few : (N : ℕ → Type 0) → ((v : ℕ) → Contains run v → N v) → (from now : ℕ) → now ≤ from + credit limit (b, o) run pairs → IsCheap limit (least count limit right) reads N from now
  credit-few N all from now le vars ps vs pss =
      let a = few-vars run vars h.distinct (λ v c. vs v (all v c)) in
      let d = few-pairs run pairs ps h.distinct h.ordered
      (λ i w c. let k = h.pairs_in i w c in (k.0, pss (slice_index run i) w (all (slice_index run i) (in-at run i k.0)) (all w k.1) k.2)) in
      let m = credit-most limit (b, o) run vars pairs ps h.progress.fits a d in
      omega arith

  pub credit-bound : credit limit (b, o) run pairs ≤ most_steps count limit
  unfolding most_steps
  credit-bound =
      let a = few-vars run (upto count) h.distinct (λ v c. in-upto count v (h.progress.counted v c)) in
      let d = few-pairs run pairs (grid count count) h.distinct h.ordered
      (λ i w c. let k = h.pairs_in i w c in (k.0, in-grid count count (slice_index run i) w (h.progress.counted (slice_index run i) (in-at run i k.0)) (h.progress.counted w k.1))) in
      credit-most limit (b, o) run (upto count) pairs (grid count count) h.progress.fits a d

  pub run_lacking : (v : ℕ) → Contains run v → Lacking (least count limit right) reads b starts v
  run_lacking v c = (h.reached v c, h.progress.apart v c)

  pub run_listed : IsListed (least count limit right) reads b o starts run
  run_listed = record { stored = h.progress.stored; lacking = run_lacking }

  pub run_stored : (v : ℕ) → Contains run v → IsSome (get o v)
  run_stored v c = own_has count limit right mono fits b o run v h.progress c

module _ (count limit : ℕ) (right : ℕ → Assignment → Set) (reads : ℕ → Assignment → List ℕ) (mono : Monotone count right) (fits : Limited count limit right) (b : Map) where
  base_by : (t : Map × Map) → ((v : ℕ) (s : Set) → found t v ≡ Some s → s ≡ least count limit right v) → (v : ℕ) (x : Option Set) → found t v ≡ x → Below (or_none x) (least count limit right v)
  base_by t all v None e = below-none _
  base_by t all v (Some s) e = below-eq _ _ (all v s e)

  base_fits : (t : Map × Map) → ((v : ℕ) (s : Set) → found t v ≡ Some s → s ≡ least count limit right v) → (v : ℕ) (x : Option Set) → found t v ≡ x → Fits limit (or_none x)
  base_fits t all v None e = fits-none limit
  base_fits t all v (Some s) e = subst (λ x. Fits limit x) (sym (all v s e)) ((least-fits count limit right mono fits).at v)

  -- with solved tables, and no variable in progress
  pub progress-base : (o : Map) (run : List ℕ) → o ≡ empty → run ≡ [] → AllLeast count limit right (b, o) → InProgress count limit right (b, o) run
  unfolding assigned
  progress-base o run e r all = record {
    within = record { at = λ v. base_by (b, o) all.at v (found (b, o) v) refl };
    fits = record { at = λ v. base_fits (b, o) all.at v (found (b, o) v) refl };
    rising = λ v c. absurd (no_run run r v c);
    apart = λ v c. absurd (no_run run r v c);
    there = λ v c. absurd (no_run run r v c);
    counted = λ v c. absurd (no_run run r v c);
    stored = λ v f. absurd (no_set o e v f);
    listed = λ v s f. inl (all.at v s f);
  }

  pub lazy-first : (o : Map) (run : List ℕ) (v : ℕ) (q : Map × List ℕ) (waits : List ℕ) (pairs : List (ℕ × ℕ)) → o ≡ empty → run ≡ [] → AllLeast count limit right (b, o) → v < count → found (b, o) v ≡ None
      → q ≡ added_by (found (b, o) v) o run v → waits ≡ 0 ∷ [] → pairs ≡ [] → Lazy count limit right reads b q.0 (v ∷ []) q.1 waits pairs
  lazy-first o run v q waits pairs oe re all lt f qe we pse =
      let e : q ≡ (insert o v none, run ++ v ∷ []) = qe ∙ ap (λ x. added_by x o run v) f in
      let r1 : run ++ v ∷ [] ≡ v ∷ [] = ap (λ xs. xs ++ v ∷ []) re in
      let run1 : q.1 ≡ v ∷ [] = ap (λ (x : Map × List ℕ). x.1) e ∙ r1 in
      let g : InProgress count limit right (b, insert o v none) (run ++ v ∷ []) = progress-new count limit right mono fits b o run v (progress-base o run oe re all) f lt in
      record {
        progress = subst (λ (x : Map × List ℕ). InProgress count limit right (b, x.0) x.1) (sym e) g;
        known = λ i l. inl (subst (λ xs. Contains xs i) (sym we) (only_first i (subst (λ xs. i < length xs) run1 l)));
        waiting = λ i c. subst (λ xs. i < length xs) (sym run1) (first_only i (subst (λ xs. Contains xs i) we c));
        pairs_in = λ i z c. absurd (no_pair pairs pse (z, i) c);
        reached = λ u c. start (subst (λ xs. Contains xs u) run1 c);
        distinct = subst (λ xs. IsDistinct nat_eq xs) (sym run1) (IsDistinct-push nat_eq_equiv [] v (IsDistinct-from_apart nat_eq [] (λ i j d l m. absurd (omega arith))) refl);
        ordered = subst (λ xs. IsStrictlySortedBy pair_cmp xs) (sym pse) none_ordered;
      }
    where
      only_first : (i : ℕ) → i < 1 → Contains (0 ∷ []) i
      only_first zero l = head-in 0 []
      only_first (suc i) l = absurd (omega arith)

      first_only : (i : ℕ) → Contains (0 ∷ []) i → i < 1
      first_only i c = elim (cons-cases 0 [] i c) [ inl is ↦ subst (λ x. x < 1) is (omega arith) | inr d ↦ absurd (let l = d.1 in omega arith) ]

  pub lazy-first_has : (o : Map) (run : List ℕ) (v : ℕ) (q : Map × List ℕ) → found (b, o) v ≡ None → q ≡ added_by (found (b, o) v) o run v → HasSet (b, q.0) v
  lazy-first_has o run v q f qe =
      subst (λ (x : Map × List ℕ). HasSet (b, x.0) v) (sym (qe ∙ ap (λ x. added_by x o run v) f)) (has-itself b o v none (found-first b o v f))

  pub lazy-first_cost : (o : Map) (run : List ℕ) (v : ℕ) (q : Map × List ℕ) (waits : List ℕ) (pairs : List (ℕ × ℕ)) (t : Map × Map) → found (b, o) v ≡ None → q ≡ added_by (found (b, o) v) o run v → waits ≡ 0 ∷ []
      → (n : ℕ) → n + length waits ≤ n + credit limit t q.1 pairs
  unfolding credit
  lazy-first_cost o run v q waits pairs t f qe pe n =
      let l = ap length (ap (λ (x : Map × List ℕ). x.1) (qe ∙ ap (λ x. added_by x o run v) f)) in
      let m = ap length pe in
      omega (arith, length-append run (v ∷ []))

pub taken : (waits rest : List ℕ) (p : ℕ) → waits ≡ rest ++ p ∷ [] → length waits ≡ length rest + 1
taken waits rest p e = let l = ap length e in omega (arith, length-append rest (p ∷ []))

pub on_err : {T E : Type 0} (r : Result T E) (P : Type 0) → P → OnErr r P
on_err (Ok x) P p = tt
on_err (Err e) P p = p
