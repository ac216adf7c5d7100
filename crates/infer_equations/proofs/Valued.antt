-- Numbers by variable, and the sets that they stand for.
use Rattle.std.proofs.Common.{◌≡◌, ℕ, suc, ◌<◌, Bool, ◌&&◌, T, true, false, cond, List, [], ◌∷◌, length, map, refl, sym, ◌∙◌, ap, subst}
use Rattle.std.specs.Prelude.{Option, Some, None, IsSome, is_some, option_map}
use Rattle.std.specs.Ordering.{nat_cmp, eq_by_cmp}
use Rattle.std.specs.Cmp.{nat_cmp_total}
use Rattle.std.specs.FinMap.{get, find, insert, empty, entries, entries_sorted, entries-from_sorted, from_entries, from_sorted, keys, len, len-entries, get-from_entries, get-from_sorted, get-entries, get-insert, get-empty, same_map, nat_cmp-IsAntisymmetric}
use Rattle.std.specs.FinMap.Entries.{below_all, is_sorted}
use Rattle.std.specs.Ordering.{is_lt}
use Rattle.infer_sets.specs.Sets.{Set, none}
use Rattle.infer_sets.specs.Numbers.{set_at, IsNumber, Grew}
use Rattle.infer_sets.proofs.Layers.{set-kept, below-kept}
use Rattle.infer_equations.specs.Assignment.{Map, either, or_none, overlaid}
use Rattle.infer_equations.specs.Valued.{Ids, AreGiven, valued}
use Rattle.infer_equations.proofs.Overlay.{get-overlaid}

choice : (b : Bool) (ns : List Set) (id : ℕ) (o : Option ℕ) → cond b (Some (set_at ns id)) (option_map (set_at ns) o) ≡ option_map (set_at ns) (cond b (Some id) o)
choice true ns id o = refl
choice false ns id o = refl

find-valued : (ns : List Set) (v : ℕ) (es : List (ℕ × ℕ)) → find nat_cmp v (map (λ e. (e.0, set_at ns e.1)) es) ≡ option_map (set_at ns) (find nat_cmp v es)
find-valued ns v [] = refl
find-valued ns v (e ∷ es) =
    ap (λ r. cond (eq_by_cmp nat_cmp v e.0) (Some (set_at ns e.1)) r) (find-valued ns v es) ∙ choice (eq_by_cmp nat_cmp v e.0) ns e.1 (find nat_cmp v es)

-- the set of a variable is that of its number
pub get-valued : (ns : List Set) (m : Ids) (v : ℕ) → get (valued ns m) v ≡ option_map (set_at ns) (get m v)
unfolding valued
get-valued ns m v = get-from_entries nat_cmp_total _ v ∙ find-valued ns v (entries m) ∙ ap (option_map (set_at ns)) (sym (get-entries m v))

same_sets : (m n : Map) → ((v : ℕ) → get m v ≡ get n v) → m ≡ n
same_sets m n h = same_map nat_cmp_total nat_cmp-IsAntisymmetric m n h

grown_at : (xs ys : List Set) (o : Option ℕ) → Grew xs ys → ((id : ℕ) → o ≡ Some id → id < length xs) → option_map (set_at ys) o ≡ option_map (set_at xs) o
grown_at xs ys None g h = refl
grown_at xs ys (Some id) g h = ap Some (set-kept xs ys id g (h id refl))

-- while numbers are added, the variables keep their sets
pub valued-grew : (xs ys : List Set) (m : Ids) → Grew xs ys → AreGiven xs m → valued ys m ≡ valued xs m
valued-grew xs ys m g a = same_sets _ _ (λ v. get-valued ys m v ∙ grown_at xs ys (get m v) g (a.at v) ∙ sym (get-valued xs m v))

pub given-grew : (xs ys : List Set) (m : Ids) → Grew xs ys → AreGiven xs m → AreGiven ys m
given-grew xs ys m g a = record { at = λ v id e. below-kept xs ys id g (a.at v id e) }

pub no_some : {X : Type 0} (o : Option X) (x : X) → o ≡ None → o ≡ Some x → ⊥
no_some o x e f = cc

pub given-empty : (ns : List Set) (m : Ids) → m ≡ empty → AreGiven ns m
given-empty ns m e = record { at = λ v id h. absurd (no_some (get m v) id (ap (λ x. get x v) e ∙ get-empty nat_cmp v) h) }

pub valued-empty : (ns : List Set) (m : Ids) → m ≡ empty → valued ns m ≡ empty
valued-empty ns m e = same_sets _ _ (λ v. get-valued ns m v ∙ ap (λ x. option_map (set_at ns) (get x v)) e ∙ ap (option_map (set_at ns)) (get-empty nat_cmp v) ∙ sym (get-empty nat_cmp v))

-- a variable is given a number
pub valued-insert : (ns : List Set) (m : Ids) (v id : ℕ) → valued ns (insert m v id) ≡ insert (valued ns m) v (set_at ns id)
valued-insert ns m v id = same_sets _ _ (λ q.
    get-valued ns (insert m v id) q ∙ ap (option_map (set_at ns)) (get-insert nat_cmp_total m v id q)
    ∙ sym (choice (eq_by_cmp nat_cmp q v) ns id (get m q)) ∙ ap (λ r. cond (eq_by_cmp nat_cmp q v) (Some (set_at ns id)) r) (sym (get-valued ns m q))
    ∙ sym (get-insert nat_cmp_total (valued ns m) v (set_at ns id) q))

pub some_same : (n m : ℕ) → ◌≡◌ {A = Option ℕ} (Some n) (Some m) → n ≡ m
some_same n m e = ap (λ (o : Option ℕ). or_zero o) e
  where
    or_zero : Option ℕ → ℕ
    or_zero (Some k) = k
    or_zero None = 0

given_by : (ns : List Set) (b : Bool) (n id : ℕ) (o : Option ℕ) → n < length ns → (o ≡ Some id → id < length ns) → cond b (Some n) o ≡ Some id → id < length ns
given_by ns true n id o l more e = subst (λ k. k < length ns) (some_same n id e) l
given_by ns false n id o l more e = more e

pub given-insert : (ns : List Set) (m : Ids) (v n : ℕ) → n < length ns → AreGiven ns m → AreGiven ns (insert m v n)
given-insert ns m v n l a = record { at = λ q id e. given_by ns (eq_by_cmp nat_cmp q v) n id (get m q) l (a.at q id) (sym (get-insert nat_cmp_total m v n q) ∙ e) }

either_map : (ns : List Set) (o p : Option ℕ) → option_map (set_at ns) (either o p) ≡ either (option_map (set_at ns) o) (option_map (set_at ns) p)
either_map ns None p = refl
either_map ns (Some id) p = refl

-- the entries of both
pub valued-overlaid : (ns : List Set) (m n : Ids) → valued ns (overlaid m n) ≡ overlaid (valued ns m) (valued ns n)
valued-overlaid ns m n = same_sets _ _ (λ q.
    get-valued ns (overlaid m n) q ∙ ap (option_map (set_at ns)) (get-overlaid m n q) ∙ either_map ns (get m q) (get n q)
    ∙ ap (λ x. either x (option_map (set_at ns) (get n q))) (sym (get-valued ns m q)) ∙ ap (λ x. either (get (valued ns m) q) x) (sym (get-valued ns n q))
    ∙ sym (get-overlaid (valued ns m) (valued ns n) q))

either_given : (ns : List Set) (o p : Option ℕ) (id : ℕ) → (o ≡ Some id → id < length ns) → (p ≡ Some id → id < length ns) → either o p ≡ Some id → id < length ns
either_given ns None p id f g e = g e
either_given ns (Some k) p id f g e = f e

pub given-overlaid : (ns : List Set) (m n : Ids) → AreGiven ns m → AreGiven ns n → AreGiven ns (overlaid m n)
given-overlaid ns m n a b = record { at = λ v id e. either_given ns (get m v) (get n v) id (a.at v id) (b.at v id) (sym (get-overlaid m n v) ∙ e) }

pub some-valued : (ns : List Set) (m : Ids) (v : ℕ) → is_some (get (valued ns m) v) ≡ is_some (get m v)
some-valued ns m v = ap is_some (get-valued ns m v) ∙ some_map (get m v)
  where
    some_map : (o : Option ℕ) → is_some (option_map (set_at ns) o) ≡ is_some o
    some_map None = refl
    some_map (Some id) = refl

none_map : (ns : List Set) (o : Option ℕ) → option_map (set_at ns) o ≡ None → o ≡ None
none_map ns None e = refl
none_map ns (Some id) e = absurd (let h = e in cc)

pub none-valued : (ns : List Set) (m : Ids) (v : ℕ) → get (valued ns m) v ≡ None → get m v ≡ None
none-valued ns m v e = none_map ns (get m v) (sym (get-valued ns m v) ∙ e)

below_same : (ns : List Set) (k : ℕ) (es : List (ℕ × ℕ)) → below_all nat_cmp k es ≡ below_all nat_cmp k (map (λ e. (e.0, set_at ns e.1)) es)
below_same ns k [] = refl
below_same ns k (e ∷ es) = ap (λ b. is_lt (nat_cmp k e.0) && b) (below_same ns k es)

sorted_same : (ns : List Set) (es : List (ℕ × ℕ)) → is_sorted nat_cmp es ≡ is_sorted nat_cmp (map (λ e. (e.0, set_at ns e.1)) es)
sorted_same ns [] = refl
sorted_same ns (e ∷ es) = ap (λ b. b && is_sorted nat_cmp es) (below_same ns e.0 es) ∙ ap (λ b. below_all nat_cmp e.0 (map (λ e. (e.0, set_at ns e.1)) es) && b) (sorted_same ns es)

-- the entries of a map of sets are those of the numbers, each with its set
entries-valued : (ns : List Set) (m : Ids) → entries (valued ns m) ≡ map (λ e. (e.0, set_at ns e.1)) (entries m)
unfolding valued
entries-valued ns m =
    let es = map (λ e. (e.0, set_at ns e.1)) (entries m) in
    let sorted : T (is_sorted nat_cmp es) = subst T (sorted_same ns (entries m)) (entries_sorted m) in
    ap entries (same_map nat_cmp_total nat_cmp-IsAntisymmetric (from_entries {R = nat_cmp} es) (from_sorted es) (λ q. get-from_entries nat_cmp_total es q ∙ sym (get-from_sorted nat_cmp es q sorted)))
    ∙ entries-from_sorted nat_cmp es sorted

keys_map : (ns : List Set) (es : List (ℕ × ℕ)) → map (λ (f : ℕ × Set). f.0) (map (λ e. (e.0, set_at ns e.1)) es) ≡ map (λ (f : ℕ × ℕ). f.0) es
keys_map ns [] = refl
keys_map ns (e ∷ es) = ap (λ ks. e.0 ∷ ks) (keys_map ns es)

length_keys : {X : Type 0} (es : List (ℕ × X)) → length (map (λ (f : ℕ × X). f.0) es) ≡ length es
length_keys [] = refl
length_keys (e ∷ es) = ap (λ n. suc n) (length_keys es)

pub keys-valued : (ns : List Set) (m : Ids) → keys (valued ns m) ≡ keys m
keys-valued ns m = ap (λ es. map (λ (f : ℕ × Set). f.0) es) (entries-valued ns m) ∙ keys_map ns (entries m)

pub len-valued : (ns : List Set) (m : Ids) → len (valued ns m) ≡ len m
len-valued ns m =
    len-entries (valued ns m) ∙ sym (length_keys (entries (valued ns m))) ∙ ap length (keys-valued ns m) ∙ length_keys (entries m) ∙ sym (len-entries m)

pub find_valued : (ns : List Set) (m : Ids) (v : ℕ) (s : Set) (id : ℕ) → Some id ≡ get m v → s ≡ set_at ns id → Some s ≡ get (valued ns m) v
find_valued ns m v s id e h = ap Some h ∙ ap (option_map (set_at ns)) e ∙ sym (get-valued ns m v)

pub find_none : (ns : List Set) (m : Ids) (v : ℕ) → None ≡ get m v → None ≡ get (valued ns m) v
find_none ns m v e = ap (option_map (set_at ns)) e ∙ sym (get-valued ns m v)

pub none-numbered : (ns : List Set) (m : Ids) (v : ℕ) → get m v ≡ None → get (valued ns m) v ≡ None
none-numbered ns m v e = get-valued ns m v ∙ ap (option_map (set_at ns)) e
