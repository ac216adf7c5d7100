-- What merges in a row count again.
use Rattle.std.proofs.Common.{◌≡◌, ℕ, suc, ◌+◌, ◌-◌, ◌*◌, ◌^◌, ◌≤◌, Bool, true, false, not, ◌&&◌, T, List, [], ◌∷◌, length, map, refl, sym, ◌∙◌, ap, subst, arith}
use Rattle.std.specs.Prelude.{Option, Some, None, IsSome, is_some}
use Rattle.std.specs.List.{All, AllByRecursion, Contains, filter}
use Rattle.std.specs.List.Sorted.{IsStrictlySortedBy}
use Rattle.std.specs.Ordering.{nat_cmp, is_lt}
use Rattle.std.specs.declared.cmp.Ordering.{Ordering}
use Rattle.std.specs.declared.cmp.Ordering.TheVariants.{Less, Equal, Greater}
use Rattle.infer_lazy.proofs.Members.{head-in}
use Rattle.std.specs.Cmp.{nat_cmp_total, eq_by_cmp_equiv}
use Rattle.std.specs.FinMap.{get, keys, len, entries, len-entries, entries_sorted, contains_key-keys}
use Rattle.std.specs.FinMap.Entries.{is_sorted, below_all}
use Rattle.std.proofs.lemmas.Map.Keys.{IsDistinct-from_sorted}
use Rattle.std.proofs.lemmas.Map.Made.{length-le_from_is_member}
use Rattle.std.proofs.lemmas.Map.Views.{Contains-from_any, list_any-from_Contains, tells_apart}
use Rattle.std.proofs.lemmas.Map.Lookups.{exact_unsigned}
use Rattle.std.proofs.lemmas.List.Kept.{IsStrictlySortedBy-filter}
use Rattle.std.proofs.lemmas.List.Elements.{All-contains, All-tail}
use Rattle.std.proofs.lemmas.List.{length-map}
use Rattle.std.proofs.Math.Nat.{min-le_left}
use Rattle.infer_sets.specs.Sets.{Set}
use Rattle.infer_equations.specs.Assignment.{Map, either}
use Rattle.infer_equations.proofs.Overlay.{get-overlaid}
use Rattle.infer_core.specs.Right.{FrozenTable}
use Rattle.infer_core.specs.Solving.{AreApart}
use Rattle.infer_core.specs.Merge.{shared, merged}
use Rattle.infer_core.specs.Row.{Keeps}
use Rattle.infer_core.specs.Laws.{merged_all, FewAgain}
use Rattle.infer_core.proofs.Filtered.{passes, left, parts}
use Rattle.infer_core.proofs.Costs.{kept-some, keeps-then}

less-by : (r : Ordering) (b : Bool) → T (is_lt r && b) → r ≡ Less
less-by Less b h = refl
less-by Equal b h = absurd h
less-by Greater b h = absurd h

rest-by : (r : Ordering) (b : Bool) → T (is_lt r && b) → T b
rest-by Less b h = h
rest-by Equal b h = absurd h
rest-by Greater b h = absurd h

both-first : (a b : Bool) → T (a && b) → T a
both-first true b h = tt
both-first false b h = absurd h

both-second : (a b : Bool) → T (a && b) → T b
both-second true b h = h
both-second false b h = absurd h

all-head : (P : Map → Type 0) (o : Map) (os : List Map) → All P (o ∷ os) → P o
all-head P o os a = All-contains P (o ∷ os) o a (head-in o os)

below-all : (x : ℕ) (es : List (ℕ × Set)) → T (below_all nat_cmp x es) → AllByRecursion (λ y. nat_cmp x y ≡ Less) (map (λ e. e.0) es)
below-all x [] h = tt
below-all x (e ∷ es) h = (less-by (nat_cmp x e.0) _ h, below-all x es (rest-by (nat_cmp x e.0) _ h))

rise : (es : List (ℕ × Set)) → T (is_sorted nat_cmp es) → IsStrictlySortedBy nat_cmp (map (λ e. e.0) es)
unfolding IsStrictlySortedBy
rise [] h = tt
rise (e ∷ es) h = (below-all e.0 es (both-first _ _ h), rise es (both-second _ _ h))

-- the keys of a map rise
keys-rise : (m : Map) → IsStrictlySortedBy nat_cmp (keys m)
keys-rise m = rise (entries m) (entries_sorted m)

len-keys : (m : Map) → len m ≡ length (keys m)
len-keys m = len-entries m ∙ sym (length-map (entries m) (λ e. e.0))

has-key : (m : Map) (v : ℕ) → Contains (keys m) v → IsSome (get m v)
has-key m v c = contains_key-keys m v ∙ list_any-from_Contains (eq_by_cmp_equiv nat_cmp_total) v (keys m) c

key-in : (m : Map) (v : ℕ) → IsSome (get m v) → Contains (keys m) v
key-in m v h = Contains-from_any (tells_apart exact_unsigned) v (keys m) (sym (contains_key-keys m v) ∙ h)

-- a list that rises is no longer than one that holds its members
no-longer : (xs ys : List ℕ) → IsStrictlySortedBy nat_cmp xs → ((v : ℕ) → Contains xs v → Contains ys v) → length xs ≤ length ys
no-longer xs ys s h = length-le_from_is_member (eq_by_cmp_equiv nat_cmp_total) xs ys (IsDistinct-from_sorted nat_cmp xs s) (λ q m. list_any-from_Contains (eq_by_cmp_equiv nat_cmp_total) q ys (h q (Contains-from_any (tells_apart exact_unsigned) q xs m)))

kept-key : (a b : Map) (v : ℕ) → Keeps a b → Contains (keys a) v → Contains (keys b) v
kept-key a b v k c = key-in b v (kept-some a b v k (has-key a v c))

-- a table that grows has no fewer variables
len-kept : (a b : Map) → Keeps a b → len a ≤ len b
len-kept a b k = let n = no-longer (keys a) (keys b) (keys-rise a) (λ v c. kept-key a b v k c) in let la = len-keys a in let lb = len-keys b in omega (arith, n, la, lb)

not-some : (o : Option Set) → o ≡ None → is_some o ≡ true → ⊥
not-some None e h = absurd (let f = h in cc)
not-some (Some s) e h = absurd (let f = e in cc)

not-is : (o : Option Set) → o ≡ None → not (is_some o) ≡ true
not-is None e = refl
not-is (Some s) e = absurd (let f = e in cc)

-- what an overlay shares with a grown table, while it shared nothing with the table before, the table gained
shared-gained : (f m o : Map) → Keeps f m → AreApart f o → shared m o + len f ≤ len m
unfolding shared
shared-gained f m o k apart =
    let in_m : ℕ → Bool = λ v. is_some (get m v) in
    let in_f : ℕ → Bool = λ v. is_some (get f v) in
    let x : length (filter in_m (keys o)) ≤ length (filter (λ v. not (in_f v)) (keys m)) = no-longer (filter in_m (keys o)) (filter (λ v. not (in_f v)) (keys m)) (IsStrictlySortedBy-filter nat_cmp in_m (keys o) (keys-rise o)) (λ v c.
    let p = passes in_m v (keys o) c in
    left (λ w. not (in_f w)) v (keys m) (not-is (get f v) (apart.at v (has-key o v p.1))) (key-in m v p.0)) in
    let y = no-longer (keys f) (filter in_f (keys m)) (keys-rise f) (λ v c. left in_f v (keys m) (has-key f v c) (kept-key f m v k c)) in
    let z = parts in_f (keys m) in
    let la = len-keys f in
    let lb = len-keys m in
    omega (arith, x, y, z, la, lb)

none-passes : (p : ℕ → Bool) (xs : List ℕ) → ((v : ℕ) → Contains xs v → p v ≡ true → ⊥) → length (filter p xs) ≡ 0
none-passes p xs h = by (filter p xs) refl
  where
    by : (ys : List ℕ) → filter p xs ≡ ys → length (filter p xs) ≡ 0
    by [] e = ap length e
    by (y ∷ ys) e = absurd (let c = passes p y xs (subst (λ zs. Contains zs y) (sym e) (head-in y ys)) in h y c.1 c.0)

-- an overlay that is apart shares nothing
shared-none : (m o : Map) → AreApart m o → shared m o ≡ 0
unfolding shared
shared-none m o apart = none-passes (λ v. is_some (get m v)) (keys o) (λ v c e. not-some (get m v) (apart.at v (has-key o v c)) e)

either_some : (o p : Option Set) (s : Set) → o ≡ Some s → either o p ≡ Some s
either_some None p s e = absurd (let f = e in cc)
either_some (Some t) p s e = e

merge-keeps : (f : FrozenTable) (o : Map) → Keeps f.sets (merged f o).sets
merge-keeps f o = record { at = λ v s e. get-overlaid f.sets o v ∙ either_some (get f.sets v) (get o v) s e }

merges-keep : (os : List Map) (f : FrozenTable) → Keeps f.sets (merged_all f os).sets
merges-keep [] f = record { at = λ v s e. e }
merges-keep (o ∷ os) f = keeps-then f.sets (merged f o).sets (merged_all (merged f o) os).sets (merge-keeps f o) (merges-keep os (merged f o))

times-next : (k d : ℕ) → d + k * d ≡ suc k * d
times-next k d = grind arith

again-next : (x y z s l m h k : ℕ) → y ≤ x + s → s + l ≤ m → m ≤ h → z ≤ y + k * (h - l) → z ≤ x + suc k * (h - l)
again-next x y z s l m h k a b c d = let t = times-next k (h - l) in omega (arith, a, b, c, d, t)

few-from : (os : List Map) (f : Map) (g : FrozenTable) → Keeps f g.sets → All (λ o. AreApart f o) os → (merged_all g os).again ≤ g.again + length os * (len (merged_all g os).sets - len f)
few-from [] f g k a = omega arith
few-from (o ∷ os) f g k a =
    again-next g.again (merged g o).again (merged_all (merged g o) os).again (shared g.sets o) (len f) (len g.sets) (len (merged_all (merged g o) os).sets) (length os)
    (min-le_left (g.again + shared g.sets o) (2 ^ 64 - 1)) (shared-gained f g.sets o k (all-head (λ q. AreApart f q) o os a)) (len-kept g.sets (merged_all (merged g o) os).sets (merges-keep (o ∷ os) g))
    (few-from os f (merged g o) (keeps-then f g.sets (merged g o).sets k (merge-keeps g o)) (All-tail (λ q. AreApart f q) o os a))

first-again : (x y z k d : ℕ) → y ≤ x + 0 → z ≤ y + k * d → z ≤ x + (suc k - 1) * d
first-again x y z k d a b = let e : suc k - 1 ≡ k = omega arith in subst (λ n. z ≤ x + n * d) (sym e) (omega (arith, a, b))

few-by : (f : FrozenTable) (os : List Map) → All (λ o. AreApart f.sets o) os → (merged_all f os).again ≤ f.again + (length os - 1) * (len (merged_all f os).sets - len f.sets)
few-by f [] a = omega arith
few-by f (o ∷ os) a =
    first-again f.again (merged f o).again (merged_all (merged f o) os).again (length os) (len (merged_all (merged f o) os).sets - len f.sets)
    (subst (λ n. (merged f o).again ≤ f.again + n) (shared-none f.sets o (all-head (λ q. AreApart f.sets q) o os a)) (min-le_left (f.again + shared f.sets o) (2 ^ 64 - 1)))
    (few-from os f.sets (merged f o) (merge-keeps f o) (All-tail (λ q. AreApart f.sets q) o os a))

pub few-again : FewAgain
few-again = record { most = few-by }
