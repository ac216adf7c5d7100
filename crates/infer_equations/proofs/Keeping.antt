-- Sets in progress become solved, one after another; or those that did are taken out again.
use Rattle.std.proofs.Common.{◌≡◌, ℕ, zero, suc, ◌+◌, ◌<◌, Bool, true, false, cond, ◌||◌, List, [], ◌∷◌, length, get_or, drop, refl, sym, ◌∙◌, ap, subst, arith, below_more, add-one, drop-cons}
use Rattle.std.specs.Prelude.{Option, Some, None, IsSome, nat_eq, ◌==◌, Result, Ok, Err, is_err, OnOk, OnErr}
use Rattle.std.specs.List.{Contains, list_any}
use Rattle.std.specs.Ordering.{nat_cmp, eq_by_cmp}
use Rattle.std.specs.Cmp.{nat_cmp_total}
use Rattle.std.proofs.lemmas.Bool.Decides.{nat_tests}
use Rattle.std.proofs.lemmas.List.{get_or_read}
use Rattle.std.specs.FinMap.{FinMap, get, insert, remove, get-insert, get-remove, same_map, nat_cmp-IsAntisymmetric}
use Rattle.infer_equations.specs.Assignment.{either, overlaid}
use Rattle.infer_equations.proofs.Overlay.{get-overlaid}
use Rattle.infer_equations.specs.Kept.{kept_by}

pub test_same : (q v : ℕ) → (q == v) ≡ true → q ≡ v
test_same q v e = grind (arith, nat_tests)

test_itself : (v : ℕ) → (v == v) ≡ true
test_itself v = grind (arith, nat_tests)

in_front : (k : ℕ) (ks : List ℕ) (q : ℕ) → Contains ks q → Contains (k ∷ ks) q
in_front k ks q c = (suc c.0, omega (arith, c.1), c.2)

any_by : (q k : ℕ) (ks : List ℕ) (c : Bool) → nat_eq q k ≡ c → (c || list_any (nat_eq q) ks) ≡ true → (list_any (nat_eq q) ks ≡ true → Contains ks q) → Contains (k ∷ ks) q
any_by q k ks true e h more = (0, omega arith, sym (test_same q k e))
any_by q k ks false e h more = in_front k ks q (more h)

pub any_contains : (q : ℕ) (ks : List ℕ) → list_any (nat_eq q) ks ≡ true → Contains ks q
any_contains q [] e = absurd (let h = e in cc)
any_contains q (k ∷ ks) e = any_by q k ks (nat_eq q k) refl e (any_contains q ks)

same_test : (q v : ℕ) → eq_by_cmp nat_cmp q v ≡ (q == v)
same_test q v = grind (arith, nat_tests)

at_place : (run : List ℕ) (v k : ℕ) → k < length run → get_or run k v ≡ v → get_or run k 0 ≡ v
at_place run v k lt e = sym (get_or_read run k v lt (sym e) 0)

any_default : (run : List ℕ) (i d e : ℕ) → i < length run → get_or run i d ≡ get_or run i e
any_default [] i d e lt = absurd (omega arith)
any_default (x ∷ xs) zero d e lt = refl
any_default (x ∷ xs) (suc i) d e lt = any_default xs i d e (omega arith)

pub listed_at : (run : List ℕ) (i : ℕ) → i < length run → Contains run (get_or run i 0)
listed_at run i lt = (i, lt, any_default run i (get_or run i 0) 0 lt)

pub any_in : (q : ℕ) (run : List ℕ) → Contains run q → list_any (nat_eq q) run ≡ true
any_in q [] c = absurd (let l = c.1 in omega arith)
any_in q (k ∷ ks) (zero, l, e) = ap (λ z. nat_eq q z || list_any (nat_eq q) ks) e ∙ ap (λ b. b || list_any (nat_eq q) ks) (test_itself q)
any_in q (k ∷ ks) (suc n, l, e) = later (nat_eq q k) _ (any_in q ks (n, omega arith, e))
  where
    later : (a b : Bool) → b ≡ true → (a || b) ≡ true
    later true b h = refl
    later false b h = h

pub drop-next : (run : List ℕ) (i : ℕ) → i < length run → drop i run ≡ get_or run i 0 ∷ drop (i + 1) run
drop-next run i h = rw (add-one, drop-cons run i 0)

pub err_of : {T F : Type 0} (r : Result T F) (P : Type 0) → is_err r ≡ true → OnErr r P → P
err_of (Ok x) P e h = absurd (let f = e in cc)
err_of (Err x) P e h = h

pub ok_of : {T F : Type 0} (r : Result T F) (P : Type 0) → is_err r ≡ false → OnOk r P → P
ok_of (Ok x) P e h = h
ok_of (Err x) P e h = absurd (let f = e in cc)

module _ {X : Type 0} where
  pub get-put : (o : FinMap nat_cmp X) (v : ℕ) (s : X) (q : ℕ) → get (insert o v s) q ≡ cond (q == v) (Some s) (get o q)
  get-put o v s q = get-insert nat_cmp_total o v s q ∙ ap (λ c. cond c (Some s) (get o q)) (same_test q v)

  get-taken : (o : FinMap nat_cmp X) (v q : ℕ) → get (remove o v) q ≡ cond (q == v) None (get o q)
  get-taken o v q = get-remove nat_cmp_total o v q ∙ ap (λ c. cond c None (get o q)) (same_test q v)

  -- what is true after the first i of the listed variables were moved
  pub record Moved (work own : FinMap nat_cmp X) (run : List ℕ) (i : ℕ) (work' own' : FinMap nat_cmp X) : Type 0 where
    pub both : (q : ℕ) → either (get work' q) (get own' q) ≡ either (get work q) (get own q)
    pub gone : (k : ℕ) → k < i → get work' (get_or run k 0) ≡ None
    pub never : (q : ℕ) → get work q ≡ None → get work' q ≡ None
    pub others : (q : ℕ) → get work q ≡ None → get own' q ≡ get own q
    pub kept : (q : ℕ) (s : X) → get own q ≡ Some s → get own' q ≡ Some s

  pub moved-none : (work own : FinMap nat_cmp X) (run : List ℕ) → Moved work own run 0 work own
  moved-none work own run = record { both = λ q. refl; gone = λ k l. absurd (omega arith); never = λ q e. e; others = λ q e. refl; kept = λ q s e. e }

  both_at : (v : ℕ) (x : Option X) (work own : FinMap nat_cmp X) → get work v ≡ x → (q : ℕ) (c : Bool) → (q == v) ≡ c → either (cond c None (get work q)) (get (kept_by x v own) q) ≡ either (get work q) (get own q)
  both_at v None work own e q true t = ap (λ y. either y (get own q)) (sym (ap (λ z. get work z) (test_same q v t) ∙ e))
  both_at v None work own e q false t = refl
  both_at v (Some s) work own e q true t =
      get-put own v s q ∙ ap (λ c. cond c (Some s) (get own q)) t
      ∙ ap (λ y. either y (get own q)) (sym (ap (λ z. get work z) (test_same q v t) ∙ e))
  both_at v (Some s) work own e q false t = ap (λ y. either (get work q) y) (get-put own v s q ∙ ap (λ c. cond c (Some s) (get own q)) t)

  other_at : (v : ℕ) (x : Option X) (work own : FinMap nat_cmp X) → get work v ≡ x → (q : ℕ) → get work q ≡ None → (c : Bool) → (q == v) ≡ c → get (kept_by x v own) q ≡ get own q
  other_at v None work own e q n c t = refl
  other_at v (Some s) work own e q n true t = absurd (let a = sym (ap (λ z. get work z) (test_same q v t) ∙ e) ∙ n in cc)
  other_at v (Some s) work own e q n false t = get-put own v s q ∙ ap (λ c. cond c (Some s) (get own q)) t

  -- a variable that was not moved has what it had
  unmoved_by : (v : ℕ) (x : Option X) (own : FinMap nat_cmp X) (q : ℕ) (c : Bool) → (q == v) ≡ c → (q ≡ v → ⊥) → get (kept_by x v own) q ≡ get own q
  unmoved_by v None own q c t apart = refl
  unmoved_by v (Some s) own q true t apart = absurd (apart (test_same q v t))
  unmoved_by v (Some s) own q false t apart = get-put own v s q ∙ ap (λ c. cond c (Some s) (get own q)) t

  some_none : (o : Option X) (s : X) → o ≡ None → o ≡ Some s → ⊥
  some_none o s e f = cc

  none_by : (c : Bool) (x : Option X) → x ≡ None → cond c None x ≡ None
  none_by true x e = refl
  none_by false x e = e

  -- one more
  pub moved-more : (work own : FinMap nat_cmp X) (run : List ℕ) (i v : ℕ) (w o w' o' : FinMap nat_cmp X) → Moved work own run i w o → get own v ≡ None → v ≡ get_or run i 0 → o' ≡ kept_by (get w v) v o → w' ≡ remove w v → Moved work own run (i + 1) w' o'
  moved-more work own run i v w o w' o' m new at oe we = record {
    both = λ q. ap (λ y. either (get y q) (get o' q)) we ∙ ap (λ y. either (get (remove w v) q) (get y q)) oe
        ∙ ap (λ y. either y (get (kept_by (get w v) v o) q)) (get-taken w v q) ∙ both_at v (get w v) w o refl q (q == v) refl ∙ m.both q;
    gone = below_more (λ k. get w' (get_or run k 0) ≡ None) i
        (λ k l. ap (λ y. get y (get_or run k 0)) we ∙ get-taken w v (get_or run k 0) ∙ none_by (get_or run k 0 == v) _ (m.gone k l))
        (ap (λ y. get y (get_or run i 0)) we ∙ get-taken w v (get_or run i 0) ∙ ap (λ c. cond c None (get w (get_or run i 0))) (ap (λ z. get_or run i 0 == z) at ∙ test_itself (get_or run i 0)));
    never = λ q e. ap (λ y. get y q) we ∙ get-taken w v q ∙ none_by (q == v) _ (m.never q e);
    others = λ q e. ap (λ y. get y q) oe ∙ other_at v (get w v) w o refl q (m.never q e) (q == v) refl ∙ m.others q e;
    kept = λ q s e. ap (λ y. get y q) oe ∙ unmoved_by v (get w v) o q (q == v) refl (λ is. some_none (get own q) s (ap (λ z. get own z) is ∙ new) e) ∙ m.kept q s e;
  }

  gone_by : (work own : FinMap nat_cmp X) (run : List ℕ) (w o : FinMap nat_cmp X) → Moved work own run (length run) w o → (q : ℕ) (x : Option X) → get work q ≡ x → (IsSome x → Contains run q) → get w q ≡ None
  gone_by work own run w o m q None e h = m.never q e
  gone_by work own run w o m q (Some s) e h =
      let c = h refl in
      subst (λ z. get w z ≡ None) (at_place run q c.0 c.1 c.2) (m.gone c.0 c.1)

  either_none : (x : Option X) → either x None ≡ x
  either_none None = refl
  either_none (Some s) = refl

  all_at : (work own : FinMap nat_cmp X) (run : List ℕ) (w o : FinMap nat_cmp X) → ((v : ℕ) → IsSome (get work v) → get own v ≡ None → Contains run v) → Moved work own run (length run) w o → (q : ℕ) (x : Option X) → get own q ≡ x → get o q ≡ either x (get work q)
  all_at work own run w o stored m q None e =
      ap (λ x. either x (get o q)) (sym (gone_by work own run w o m q (get work q) refl (λ has. stored q has e))) ∙ m.both q ∙ ap (λ x. either (get work q) x) e ∙ either_none (get work q)
  all_at work own run w o stored m q (Some s) e = m.kept q s e

  -- all were moved
  pub moved-all : (work own : FinMap nat_cmp X) (run : List ℕ) (w o : FinMap nat_cmp X) → ((v : ℕ) → IsSome (get work v) → get own v ≡ None → Contains run v) → Moved work own run (length run) w o → o ≡ overlaid own work
  moved-all work own run w o stored m = same_map nat_cmp_total nat_cmp-IsAntisymmetric o (overlaid own work) (λ q.
      all_at work own run w o stored m q (get own q) refl ∙ sym (get-overlaid own work q))

  back_at : (work own : FinMap nat_cmp X) (run : List ℕ) (i : ℕ) (w o : FinMap nat_cmp X) → ((v : ℕ) → Contains run v → get own v ≡ None) → ((v : ℕ) → IsSome (get work v) → get own v ≡ None → Contains run v)
      → Moved work own run i w o → (q : ℕ) (c : Bool) → list_any (nat_eq q) run ≡ c → (x y : Option X) → get work q ≡ x → get own q ≡ y → (Contains run q → list_any (nat_eq q) run ≡ true) → cond c None (get o q) ≡ get own q
  back_at work own run i w o apart stored m q true t x y e f any = sym (apart q (any_contains q run t))
  back_at work own run i w o apart stored m q false t None y e f any = m.others q e
  back_at work own run i w o apart stored m q false t (Some s) None e f any =
      absurd (let c = any (stored q (subst IsSome (sym e) refl) f) in let n = sym t ∙ c in cc)
  back_at work own run i w o apart stored m q false t (Some s) (Some r) e f any = m.kept q r f ∙ sym f

  -- those that were moved are taken out
  pub moved-back : (work own : FinMap nat_cmp X) (run : List ℕ) (i : ℕ) (w o o' : FinMap nat_cmp X) → ((v : ℕ) → Contains run v → get own v ≡ None) → ((v : ℕ) → IsSome (get work v) → get own v ≡ None → Contains run v)
      → Moved work own run i w o → ((v : ℕ) → get o' v ≡ cond (list_any (nat_eq v) run) None (get o v)) → o' ≡ own
  moved-back work own run i w o o' apart stored m e = same_map nat_cmp_total nat_cmp-IsAntisymmetric o' own (λ q.
      e q ∙ back_at work own run i w o apart stored m q (list_any (nat_eq q) run) refl (get work q) (get own q) refl refl (any_in q run))

  taken_by : (c d : Bool) (x : Option X) → cond c None (cond d None x) ≡ cond (d || c) None x
  taken_by true true x = refl
  taken_by true false x = refl
  taken_by false true x = refl
  taken_by false false x = refl

  -- one more variable is taken out, in front of those that are left
  pub taken-more : (o : FinMap nat_cmp X) (v q : ℕ) (vs : List ℕ) → cond (list_any (nat_eq q) vs) None (get (remove o v) q) ≡ cond (list_any (nat_eq q) (v ∷ vs)) None (get o q)
  taken-more o v q vs = ap (λ x. cond (list_any (nat_eq q) vs) None x) (get-taken o v q) ∙ taken_by (list_any (nat_eq q) vs) (q == v) (get o q)
