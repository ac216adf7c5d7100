-- Sets that are copied, each once, under new numbers.
use Rattle.std.proofs.Common.{◌≡◌, ℕ, zero, suc, ◌+◌, ◌<◌, Bool, true, false, cond, ◌⊎◌, inl, inr, List, [], ◌∷◌, length, get_or, drop, refl, sym, ◌∙◌, ap, subst, arith}
use Rattle.std.specs.Prelude.{Option, Some, None, IsSome, is_some, Result, Ok, Err, OnOk, OnErr, IfOk, option_map, nat_eq, ◌||◌}
use Rattle.std.specs.List.{Contains, list_any}
use Rattle.std.specs.Ordering.{nat_cmp, eq_by_cmp}
use Rattle.std.specs.Cmp.{nat_cmp_total}
use Rattle.std.proofs.lemmas.Bool.Decides.{nat_tests}
use Rattle.std.specs.FinMap.{FinMap, get, insert, empty, keys, contains_key-keys, get-insert, get-empty, same_map, nat_cmp-IsAntisymmetric}
use Rattle.std.proofs.lemmas.Map.Views.{Contains-from_any, tells_apart}
use Rattle.std.proofs.lemmas.Map.Lookups.{exact_unsigned}
use Rattle.infer_sets.specs.Sets.{Set}
use Rattle.infer_sets.specs.Numbers.{set_at, IsNumber, Grew, with_set}
use Rattle.infer_sets.proofs.Growth.{grew-refl, is_number-grew}
use Rattle.infer_sets.proofs.Layers.{with_set-grew_by}
use Rattle.infer_equations.specs.Assignment.{Map, either, overlaid}
use Rattle.infer_equations.specs.Kept.{kept_by, taken_over}
use Rattle.infer_equations.specs.Valued.{Ids, AreGiven, AreCopied, valued}
use Rattle.infer_equations.proofs.Overlay.{get-overlaid}
use Rattle.infer_equations.proofs.Keeping.{any_in, any_contains, get-put, test_same, drop-next}
use Rattle.infer_equations.proofs.Reading.{grew-trans}
use Rattle.infer_equations.proofs.Valued.{get-valued, valued-grew, valued-insert, valued-overlaid, given-grew, given-insert, given-overlaid, none-valued, some-valued, valued-empty, no_some, some_same}

pub copied-grew : (from : List Set) (copied : Ids) (xs ys : List Set) → Grew xs ys → AreCopied from copied xs → AreCopied from copied ys
copied-grew from copied xs ys g h = record { at = λ i id e. is_number-grew xs ys id _ g (h.at i id e) }

pub copied-none : (from : List Set) (copied : Ids) (to : List Set) → copied ≡ empty → AreCopied from copied to
copied-none from copied to e = record { at = λ i id h. absurd (no_some (get copied i) id (ap (λ m. get m i) e ∙ get-empty nat_cmp i) h) }

tied : (q k : ℕ) → eq_by_cmp nat_cmp q k ≡ true → q ≡ k
tied q k e = grind (arith, nat_tests)

copied_by : (from to : List Set) (k n i id : ℕ) (o : Option ℕ) (c : Bool) → eq_by_cmp nat_cmp i k ≡ c → IsNumber to n (set_at from k) → (o ≡ Some id → IsNumber to id (set_at from i)) → cond c (Some n) o ≡ Some id → IsNumber to id (set_at from i)
copied_by from to k n i id o true t h more e = subst (λ j. IsNumber to id (set_at from j)) (sym (tied i k t)) (subst (λ m. IsNumber to m (set_at from k)) (some_same n id e) h)
copied_by from to k n i id o false t h more e = more e

pub copied-insert : (from : List Set) (copied : Ids) (to : List Set) (k n : ℕ) → IsNumber to n (set_at from k) → AreCopied from copied to → AreCopied from (insert copied k n) to
copied-insert from copied to k n h a = record {
  at = λ i id e. copied_by from to k n i id (get copied i) (eq_by_cmp nat_cmp i k) refl h (a.at i id) (sym (get-insert nat_cmp_total copied k n i) ∙ e);
}

pub copied-more : (from : List Set) (copied copied' : Ids) (xs ys : List Set) (k n : ℕ) (s : Set) → ys ≡ with_set xs s → IsNumber ys n s → s ≡ set_at from k → AreCopied from copied xs → copied' ≡ insert copied k n → AreCopied from copied' ys
copied-more from copied copied' xs ys k n s e h is a ce =
    subst (λ m. AreCopied from m ys) (sym ce) (copied-insert from copied ys k n (subst (λ t. IsNumber ys n t) is h) (copied-grew from copied xs ys (with_set-grew_by xs ys s e) a))

pub copied-same : (from : List Set) (copied copied' : Ids) (xs ys : List Set) (s : Set) → ys ≡ with_set xs s → AreCopied from copied xs → copied' ≡ copied → AreCopied from copied' ys
copied-same from copied copied' xs ys s e a ce = subst (λ m. AreCopied from m ys) (sym ce) (copied-grew from copied xs ys (with_set-grew_by xs ys s e) a)

-- a number was put, or refused
pub put_given : {T F : Type 0} (r : Result T F) (xs ys : List Set) (m m' : Ids) (v n : ℕ) (s : Set) → Grew xs ys → IsNumber ys n s → AreGiven xs m → OnOk r (m' ≡ insert m v n) → OnErr r (m' ≡ m) → AreGiven ys m'
put_given (Ok x) xs ys m m' v n s g h a ok err = subst (AreGiven ys) (sym ok) (given-insert ys m v n h.below (given-grew xs ys m g a))
put_given (Err x) xs ys m m' v n s g h a ok err = subst (AreGiven ys) (sym err) (given-grew xs ys m g a)

pub put_valued : {T F : Type 0} (r : Result T F) (from xs ys : List Set) (old m m' : Ids) (v id n : ℕ) → Grew xs ys → Some id ≡ get old v → IsNumber ys n (set_at from id) → AreGiven xs m → OnOk r (m' ≡ insert m v n)
    → OnOk r (valued ys m' ≡ kept_by (get (valued from old) v) v (valued xs m))
put_valued (Ok x) from xs ys old m m' v id n g f h a ok =
    ap (valued ys) ok ∙ valued-insert ys m v n
    ∙ ap (λ s. insert (valued ys m) v s) h.is ∙ ap (λ w. insert w v (set_at from id)) (valued-grew xs ys m g a)
    ∙ ap (λ o. kept_by o v (valued xs m)) (ap (option_map (set_at from)) f ∙ sym (get-valued from old v))
put_valued (Err x) from xs ys old m m' v id n g f h a ok = tt

pub none_valued : (from : List Set) (old : Ids) (v : ℕ) (w : Map) → None ≡ get old v → w ≡ kept_by (get (valued from old) v) v w
none_valued from old v w e = ap (λ o. kept_by o v w) (ap (option_map (set_at from)) e ∙ sym (get-valued from old v))

-- what the loop over the variables keeps
pub record Copies (from : List Set) (old : Ids) (run : List ℕ) (i : ℕ) (copies : Ids) (xs ys : List Set) (m m' : Ids) : Type 0 where
  pub grew : Grew xs ys
  pub given : AreGiven ys m'
  pub copied : AreCopied from copies ys
  pub same : taken_over (valued from old) (drop i run) (valued ys m') ≡ taken_over (valued from old) run (valued xs m)

pub copies-none : (from : List Set) (old : Ids) (run : List ℕ) (copied : Ids) (xs : List Set) (m : Ids) → copied ≡ empty → AreGiven xs m → Copies from old run 0 copied xs xs m m
copies-none from old run copied xs m e a = record { grew = grew-refl xs; given = a; copied = copied-none from copied xs e; same = refl }

pub copies-more : (from : List Set) (old : Ids) (run : List ℕ) (i : ℕ) (copied copied' : Ids) (xs ys zs : List Set) (m n n' : Ids) → Copies from old run i copied xs ys m n → i < length run
    → Grew ys zs → AreGiven zs n' → AreCopied from copied' zs → valued zs n' ≡ kept_by (get (valued from old) (get_or run i 0)) (get_or run i 0) (valued ys n) → Copies from old run (i + 1) copied' xs zs m n'
copies-more from old run i copied copied' xs ys zs m n n' h l g a c e = record {
  grew = grew-trans xs ys zs h.grew g;
  given = a;
  copied = c;
  same = ap (λ w. taken_over (valued from old) (drop (i + 1) run) w) e ∙ ap (λ vs. taken_over (valued from old) vs (valued ys n)) (sym (drop-next run i l)) ∙ h.same;
}

-- what is taken over
module _ {X : Type 0} where
  kept_at : (o : Option X) (v : ℕ) (n : FinMap nat_cmp X) (q : ℕ) (c : Bool) → nat_eq q v ≡ c → get (kept_by o v n) q ≡ cond c (either o (get n q)) (get n q)
  kept_at None v n q true e = refl
  kept_at None v n q false e = refl
  kept_at (Some x) v n q true e = get-put n v x q ∙ ap (λ c. cond c (Some x) (get n q)) e
  kept_at (Some x) v n q false e = get-put n v x q ∙ ap (λ c. cond c (Some x) (get n q)) e

  twice : (a b : Bool) (o p : Option X) → (a ≡ true → o ≡ o) → cond b (either o (cond a (either o p) p)) (cond a (either o p) p) ≡ cond (a || b) (either o p) p
  twice true true None p h = refl
  twice true true (Some x) p h = refl
  twice true false o p h = refl
  twice false true o p h = refl
  twice false false o p h = refl

  moved_to : (m : FinMap nat_cmp X) (v q : ℕ) (c : Bool) (p : Option X) → nat_eq q v ≡ c → cond c (either (get m v) p) p ≡ cond c (either (get m q) p) p
  moved_to m v q true p e = ap (λ w. either (get m w) p) (sym (test_same q v e))
  moved_to m v q false p e = refl

  pub get-taken_over : (m : FinMap nat_cmp X) (vs : List ℕ) (n : FinMap nat_cmp X) (q : ℕ) → get (taken_over m vs n) q ≡ cond (list_any (nat_eq q) vs) (either (get m q) (get n q)) (get n q)
  get-taken_over m [] n q = refl
  get-taken_over m (v ∷ vs) n q =
      get-taken_over m vs (kept_by (get m v) v n) q
      ∙ ap (λ o. cond (list_any (nat_eq q) vs) (either (get m q) o) o) (kept_at (get m v) v n q (nat_eq q v) refl ∙ moved_to m v q (nat_eq q v) (get n q) refl)
      ∙ twice (nat_eq q v) (list_any (nat_eq q) vs) (get m q) (get n q) (λ _. refl)

  all_by : (c : Bool) (o : Option X) → (IsSome o → c ≡ true) → cond c (either o None) None ≡ o
  all_by true None h = refl
  all_by true (Some x) h = refl
  all_by false None h = refl
  all_by false (Some x) h = absurd (let e = h refl in cc)

  -- into a map with no entry: all of the keys' values
  pub taken_over-all : (m : FinMap nat_cmp X) (vs : List ℕ) (n : FinMap nat_cmp X) → n ≡ empty → ((q : ℕ) → IsSome (get m q) → Contains vs q) → taken_over m vs n ≡ m
  taken_over-all m vs n e all = same_map nat_cmp_total nat_cmp-IsAntisymmetric _ m (λ q.
      get-taken_over m vs n q ∙ ap (λ x. cond (list_any (nat_eq q) vs) (either (get m q) (get x q)) (get x q)) e
      ∙ ap (λ o. cond (list_any (nat_eq q) vs) (either (get m q) o) o) (get-empty nat_cmp q)
      ∙ all_by (list_any (nat_eq q) vs) (get m q) (λ has. any_in q vs (all q has)))

  over_by : (a o : Option X) (c : Bool) → (IsSome o → a ≡ None → c ≡ true) → either a (cond c (either o None) None) ≡ either a o
  over_by None o c h = all_by c o (λ has. h has refl)
  over_by (Some x) o c h = refl

  -- what is taken over for the variables that a map lacks, behind that map
  pub overlaid-taken : (a m : FinMap nat_cmp X) (vs : List ℕ) (n : FinMap nat_cmp X) → n ≡ empty → ((v : ℕ) → IsSome (get m v) → get a v ≡ None → Contains vs v) → overlaid a (taken_over m vs n) ≡ overlaid a m
  overlaid-taken a m vs n e stored = same_map nat_cmp_total nat_cmp-IsAntisymmetric _ _ (λ q.
      get-overlaid a (taken_over m vs n) q ∙ ap (either (get a q)) (get-taken_over m vs n q ∙ ap (λ x. cond (list_any (nat_eq q) vs) (either (get m q) (get x q)) (get x q)) e
      ∙ ap (λ o. cond (list_any (nat_eq q) vs) (either (get m q) o) o) (get-empty nat_cmp q))
      ∙ over_by (get a q) (get m q) (list_any (nat_eq q) vs) (λ has none. any_in q vs (stored q has none))
      ∙ sym (get-overlaid a m q))

  taken_some : (c : Bool) (o : Option X) → IsSome (cond c (either o None) None) → c ≡ true
  taken_some true o h = refl
  taken_some false o h = absurd (let e = h in cc)

  -- only the variables are taken over
  pub taken_over-listed : (m : FinMap nat_cmp X) (vs : List ℕ) (n : FinMap nat_cmp X) (w : FinMap nat_cmp X) → n ≡ empty → w ≡ taken_over m vs n → (v : ℕ) → IsSome (get w v) → Contains vs v
  taken_over-listed m vs n w e we v has =
      any_contains v vs (taken_some (list_any (nat_eq v) vs) (get m v) (subst IsSome (ap (λ x. get x v) we ∙ get-taken_over m vs n v ∙ ap (λ x. cond (list_any (nat_eq v) vs) (either (get m v) (get x v)) (get x v)) e
      ∙ ap (λ o. cond (list_any (nat_eq v) vs) (either (get m v) o) o) (get-empty nat_cmp v)) has))

-- sets were taken over into a table: numbered anew, and then kept or refused
module _ (xs ys from : List Set) (mine old none ids : Ids) (run : List ℕ) (grew : Grew xs ys) (given : AreGiven xs mine) (empty_is : none ≡ empty)
    (copied : valued ys ids ≡ taken_over (valued from old) run (valued xs none)) where
  pub over_apart : (this : Map) → valued xs mine ≡ this → ((v : ℕ) → Contains run v → get this v ≡ None) → (v : ℕ) → Contains run v → get mine v ≡ None
  over_apart this is apart v c = none-valued xs mine v (ap (λ m. get m v) is ∙ apart v c)

  pub over_stored : (v : ℕ) → IsSome (get ids v) → get mine v ≡ None → Contains run v
  over_stored v has missing = taken_over-listed (valued from old) run (valued xs none) (valued ys ids) (valued-empty xs none empty_is) copied v (some-valued ys ids v ∙ has)

  pub over_given : {T F : Type 0} (r : Result T F) (new : Ids) → AreGiven ys ids → OnOk r (new ≡ overlaid mine ids) → OnErr r (new ≡ mine) → AreGiven ys new
  over_given (Ok x) new a ok err = subst (AreGiven ys) (sym ok) (given-overlaid ys mine ids (given-grew xs ys mine grew given) a)
  over_given (Err x) new a ok err = subst (AreGiven ys) (sym err) (given-grew xs ys mine grew given)

  pub over_ok : {T F : Type 0} (r : Result T F) (new : Ids) (this other : Map) → valued xs mine ≡ this → valued from old ≡ other → ((v : ℕ) → IsSome (get other v) → get this v ≡ None → Contains run v)
      → OnOk r (new ≡ overlaid mine ids) → OnOk r (valued ys new ≡ overlaid this other)
  over_ok (Err x) new this other is are stored ok = tt
  over_ok (Ok x) new this other is are stored ok =
      ap (valued ys) ok ∙ valued-overlaid ys mine ids
      ∙ ap (λ m. overlaid m (valued ys ids)) (valued-grew xs ys mine grew given ∙ is)
      ∙ ap (overlaid this) (copied ∙ ap (λ m. taken_over m run (valued xs none)) are)
      ∙ overlaid-taken this other run (valued xs none) (valued-empty xs none empty_is) stored

  pub over_err : {T F : Type 0} (r : Result T F) (new : Ids) (this : Map) → valued xs mine ≡ this → OnErr r (new ≡ mine) → OnErr r (valued ys new ≡ this)
  over_err (Ok x) new this is err = tt
  over_err (Err x) new this is err = ap (valued ys) err ∙ valued-grew xs ys mine grew given ∙ is

pub on_err : {T F : Type 0} (r : Result T F) (P : Type 0) → P → OnErr r P
on_err (Ok x) P p = tt
on_err (Err x) P p = p

-- all variables that have a number are listed
pub listed-keys : (from : List Set) (old : Ids) (vs ws : List ℕ) → vs ≡ ws → ws ≡ keys old → (q : ℕ) → IsSome (get (valued from old) q) → Contains vs q
listed-keys from old vs ws e f q has =
    subst (λ xs. Contains xs q) (sym (e ∙ f)) (Contains-from_any (tells_apart exact_unsigned) q (keys old) (sym (contains_key-keys old q) ∙ sym (some-valued from old q) ∙ has))
