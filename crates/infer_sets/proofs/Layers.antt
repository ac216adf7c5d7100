-- A layer over a table: numbers behind those of the base, and joins that are remembered.
use Rattle.std.proofs.Common.{◌≡◌, ℕ, ◌+◌, ◌-◌, ◌<◌, ◌≤◌, Bool, true, false, cond, ◌||◌, ◌⊎◌, inl, inr, List, [], ◌∷◌, ◌++◌, length, get_or, refl, sym, ◌∙◌, ap, subst, arith, length-append, append_assoc}
use Rattle.std.specs.Prelude.{Option, Some, None, Result, Ok, Err, IfOk, OnErr, IfSome}
use Rattle.std.proofs.lemmas.List.{get_or-append-add}
use Rattle.std.proofs.lemmas.List.Folds.{list_any-append}
use Rattle.std.specs.Ordering.{nat_cmp, eq_by_cmp, ordering_then, is_eq}
use Rattle.std.specs.Cmp.{IsTotalOrder, nat_cmp_total, then_total, on_total, eq_by_cmp_equiv}
use Rattle.std.specs.Map.{lookup}
use Rattle.std.specs.FinMap as map
use Rattle.std.specs.FinMap.{find, get-from_entries, get-insert, get-empty, same_map, nat_cmp-IsAntisymmetric}
use Rattle.std.specs.declared.cmp.Ordering.{Ordering}
use Rattle.std.specs.declared.cmp.Ordering.TheVariants.{Less, Equal, Greater}
use Rattle.infer_sets.specs.Sets.{Set, none, joined}
use Rattle.infer_sets.specs.Numbers.{set_at, IsNumber, AreApart, Grew, is_same, has_number, with_set}
use Rattle.infer_sets.specs.Joins.{Pair, pair_cmp, Joins, joins_of, AreJoined}
use Rattle.infer_sets.proofs.Growth.{number-kept, is_number-grew, with_set-grew, grew-refl, apart-with_set}

pub pair_total : IsTotalOrder pair_cmp
pair_total = then_total (then_total (on_total (λ (p : Pair). p.0) nat_cmp_total) (on_total (λ (p : Pair). p.1) nat_cmp_total)) (on_total (λ (p : Pair). p.2) nat_cmp_total)

both_equal : (r s : Ordering) → ordering_then r s ≡ Equal → (r ≡ Equal) × (s ≡ Equal)
both_equal Less s e = absurd (let h = e in cc)
both_equal Equal s e = (refl, e)
both_equal Greater s e = absurd (let h = e in cc)

pub pair_exact : (p q : Pair) → pair_cmp p q ≡ Equal → p ≡ q
pair_exact p q e =
    let h = both_equal (ordering_then (nat_cmp p.0 q.0) (nat_cmp p.1 q.1)) (nat_cmp p.2 q.2) e in
    let k = both_equal (nat_cmp p.0 q.0) (nat_cmp p.1 q.1) h.0 in
    let a = nat_cmp-IsAntisymmetric p.0 q.0 k.0 in
    let b = nat_cmp-IsAntisymmetric p.1 q.1 k.1 in
    let c = nat_cmp-IsAntisymmetric p.2 q.2 h.1 in
    λ i. (a i, b i, c i)

lookup-find : (q : Pair) (es : List (Pair × ℕ)) → lookup (λ k. eq_by_cmp pair_cmp q k) es ≡ find pair_cmp q es
lookup-find q [] = refl
lookup-find q (e ∷ es) = ap (λ r. cond (eq_by_cmp pair_cmp q e.0) (Some e.1) r) (lookup-find q es)

pub joins-get : (es : List (Pair × ℕ)) (q : Pair) → lookup (λ k. eq_by_cmp pair_cmp q k) es ≡ map.get (joins_of es) q
joins-get es q = lookup-find q es ∙ sym (get-from_entries pair_total es q)

pub joins-insert : (es fs : List (Pair × ℕ)) (k : Pair) (s : ℕ)
    → ((q : Pair) → lookup (λ x. eq_by_cmp pair_cmp q x) fs ≡ cond (eq_by_cmp pair_cmp k q) (Some s) (lookup (λ x. eq_by_cmp pair_cmp q x) es))
    → joins_of fs ≡ map.insert (joins_of es) k s
joins-insert es fs k s h = same_map pair_total pair_exact _ _ (λ q.
    sym (joins-get fs q) ∙ h q
    ∙ ap (λ b. cond b (Some s) (lookup (λ x. eq_by_cmp pair_cmp q x) es)) ((eq_by_cmp_equiv pair_total).symm k q)
    ∙ ap (λ r. cond (eq_by_cmp pair_cmp q k) (Some s) r) (joins-get es q)
    ∙ sym (get-insert pair_total (joins_of es) k s q))

-- joins stay true while numbers are added
pub joined-grew : (xs ys : List Set) (joins : Joins) → Grew xs ys → AreJoined xs joins → AreJoined ys joins
joined-grew xs ys joins g j = record {
  at = λ a b limit id h.
      let was = j.at a b limit id h in
      let n = length-append xs g.more in
      let same : (i : ℕ) → i < length xs → set_at ys i ≡ set_at xs i = λ i l. ap (λ zs. set_at zs i) g.is ∙ number-kept xs g.more i l in
      let m : length ys ≡ length xs + length g.more = ap length g.is ∙ n in (
        omega (arith, m, was.0),
        omega (arith, m, was.1),
        subst (λ s. IsNumber ys id (joined limit s (set_at ys b))) (sym (same a was.0)) (subst (λ s. IsNumber ys id (joined limit (set_at xs a) s)) (sym (same b was.1)) (is_number-grew xs ys id _ g was.2)),
      );
}

pub joined-none : (xs : List Set) (es : List (Pair × ℕ)) → es ≡ [] → AreJoined xs (joins_of es)
joined-none xs es e = record { at = λ a b limit id h. absurd (let k : map.get (joins_of es) (a, b, limit) ≡ None = ap (λ fs. map.get (joins_of fs) (a, b, limit)) e ∙ get-empty pair_cmp (a, b, limit) in let f = sym k ∙ h in cc) }

or_no : (a b : Bool) → a ≡ false → (a || b) ≡ b
or_no true b e = absurd (let h = e in cc)
or_no false b e = refl

behind_by : (xs ys : List Set) (s : Set) (b : Bool) → xs ++ cond b ys (ys ++ s ∷ []) ≡ cond b (xs ++ ys) ((xs ++ ys) ++ s ∷ [])
behind_by xs ys s true = refl
behind_by xs ys s false = sym (append_assoc xs ys (s ∷ []))

-- what the base has not is numbered behind it
pub with_set-behind : (xs ys : List Set) (s : Set) → has_number xs s ≡ false → xs ++ with_set ys s ≡ with_set (xs ++ ys) s
unfolding with_set
with_set-behind xs ys s e =
    behind_by xs ys s (has_number ys s) ∙ ap (λ b. cond b (xs ++ ys) ((xs ++ ys) ++ s ∷ [])) (sym (list_any-append (λ t. is_same t s) xs ys ∙ or_no (has_number xs s) (has_number ys s) e))

pub number-behind : (xs ys : List Set) (id : ℕ) (s : Set) → IsNumber ys id s → IsNumber (xs ++ ys) (length xs + id) s
unfolding set_at
number-behind xs ys id s h = record {
  below = let n = length-append xs ys in let l = h.below in omega (arith, n);
  is = get_or-append-add xs ys id none ∙ h.is;
}

pub behind : (xs ys zs : List Set) (s : Set) (n id : ℕ) → has_number xs s ≡ false → zs ≡ with_set ys s → IsNumber zs id s → n ≡ length xs → (xs ++ zs ≡ with_set (xs ++ ys) s) × IsNumber (xs ++ zs) (n + id) s
behind xs ys zs s n id e h k l = (ap (λ ws. xs ++ ws) h ∙ with_set-behind xs ys s e, subst (λ m. IsNumber (xs ++ zs) (m + id) s) (sym l) (number-behind xs zs id s k))

-- a set of the base has its number
pub before : (xs ys : List Set) (s : Set) (id : ℕ) → has_number xs s ≡ true → IsNumber xs id s → (xs ++ ys ≡ with_set (xs ++ ys) s) × IsNumber (xs ++ ys) id s
unfolding with_set
before xs ys s id e h =
    (sym (ap (λ b. cond b (xs ++ ys) ((xs ++ ys) ++ s ∷ [])) (list_any-append (λ t. is_same t s) xs ys ∙ ap (λ b. b || has_number ys s) e)), is_number-grew xs (xs ++ ys) id s (record { more = ys; is = refl }) h)

pub get-behind : (xs ys : List Set) (n id : ℕ) (s : Set) → n ≡ length xs → n ≤ id → s ≡ set_at ys (id - n) → s ≡ set_at (xs ++ ys) id
unfolding set_at
get-behind xs ys n id s e l h = h ∙ sym (get_or-append-add xs ys (id - n) none) ∙ ap (λ m. get_or (xs ++ ys) m none) (let k : length xs + (id - n) ≡ id = omega (arith, e) in k)

length_by : (xs : List Set) (s : Set) (b : Bool) → length (cond b xs (xs ++ s ∷ [])) ≤ length xs + 1
length_by xs s true = omega arith
length_by xs s false = let n = length-append xs (s ∷ []) in omega (arith, n)

pub room : (xs ys : List Set) (s : Set) (n m id : ℕ) → ys ≡ with_set xs s → IsNumber ys id s → m ≡ length xs → m < 18446744073709551615 - n → n + id < 18446744073709551616
unfolding with_set
room xs ys s n m id e h k l =
    let a : length ys ≤ length xs + 1 = subst (λ zs. length zs ≤ length xs + 1) (sym e) (length_by xs s (has_number xs s)) in
    let b = h.below in
    omega (arith, a, b, k, l)

-- after a number was asked for, what holds of a layer still holds
pub still : {F : Type 0} (bs os ns : List Set) (s : Set) (joins : Joins) (r : Result ℕ F) → IfOk r (λ id. (bs ++ ns ≡ with_set (bs ++ os) s) × IsNumber (bs ++ ns) id s) → OnErr r (ns ≡ os)
    → AreApart (bs ++ os) × AreJoined (bs ++ os) joins → AreApart (bs ++ ns) × AreJoined (bs ++ ns) joins
still bs os ns s joins (Ok id) ok err h = (subst AreApart (sym ok.0) (apart-with_set (bs ++ os) s h.0), joined-grew (bs ++ os) (bs ++ ns) joins (subst (Grew (bs ++ os)) (sym ok.0) (with_set-grew (bs ++ os) s)) h.1)
still bs os ns s joins (Err f) ok err h = subst (λ zs. AreApart (bs ++ zs) × AreJoined (bs ++ zs) joins) (sym err) h

equal_from_tie : (r : Ordering) → is_eq r ≡ true → r ≡ Equal
equal_from_tie Less e = absurd (let h = e in cc)
equal_from_tie Equal e = refl
equal_from_tie Greater e = absurd (let h = e in cc)

some_same : (n id : ℕ) → ◌≡◌ {A = Option ℕ} (Some n) (Some id) → n ≡ id
some_same n id e = ap (λ (o : Option ℕ). or_zero o) e
  where
    or_zero : Option ℕ → ℕ
    or_zero (Some k) = k
    or_zero None = 0

-- what an insertion has: the new number at the pair, and else what was there
insert_cases : (joins : Joins) (p q : Pair) (n id : ℕ) (b : Bool) → is_eq (pair_cmp q p) ≡ b → cond b (Some n) (map.get joins q) ≡ Some id → ((q ≡ p) × (n ≡ id)) ⊎ (map.get joins q ≡ Some id)
insert_cases joins p q n id true e h = inl (pair_exact q p (equal_from_tie _ e), some_same n id h)
insert_cases joins p q n id false e h = inr h

pub joined-insert : (xs : List Set) (joins : Joins) (a b limit n : ℕ) → a < length xs → b < length xs → IsNumber xs n (joined limit (set_at xs a) (set_at xs b)) → AreJoined xs joins → AreJoined xs (map.insert joins (a, b, limit) n)
joined-insert xs joins a b limit n la lb h j = record {
  at = λ c d l id e.
      elim (insert_cases joins (a, b, limit) (c, d, l) n id _ refl (sym (get-insert pair_total joins (a, b, limit) n (c, d, l)) ∙ e)) [
        | inl same ↦ subst (λ (p : Pair × ℕ). (p.0.0 < length xs) × (p.0.1 < length xs) × IsNumber xs p.1 (joined p.0.2 (set_at xs p.0.0) (set_at xs p.0.1))) (λ i. (sym same.0 i, same.1 i)) (la, lb, h)
        | inr was ↦ j.at c d l id was
      ];
}

old_by : (joins : Joins) (p q : Pair) (n : ℕ) (b : Bool) → eq_by_cmp pair_cmp q p ≡ b → map.get joins p ≡ Some n → map.get joins q ≡ cond b (Some n) (map.get joins q)
old_by joins p q n true e h = ap (map.get joins) (pair_exact q p (equal_from_tie _ e)) ∙ h
old_by joins p q n false e h = refl

-- to remember again what is remembered changes nothing
pub insert-old : (joins : Joins) (p : Pair) (n : ℕ) → map.get joins p ≡ Some n → joins ≡ map.insert joins p n
insert-old joins p n h = same_map pair_total pair_exact joins (map.insert joins p n) (λ q. old_by joins p q n _ refl h ∙ sym (get-insert pair_total joins p n q))

pub set-kept : (xs ys : List Set) (i : ℕ) → Grew xs ys → i < length xs → set_at ys i ≡ set_at xs i
set-kept xs ys i g l = ap (λ zs. set_at zs i) g.is ∙ number-kept xs g.more i l

pub below-kept : (xs ys : List Set) (i : ℕ) → Grew xs ys → i < length xs → i < length ys
below-kept xs ys i g l = let n = ap length g.is ∙ length-append xs g.more in omega (arith, n)

pub with_set-grew_by : (xs ys : List Set) (s : Set) → ys ≡ with_set xs s → Grew xs ys
with_set-grew_by xs ys s e = subst (Grew xs) (sym e) (with_set-grew xs s)

-- the number of the join, in the words of the grown list
pub number-joined : (xs ys : List Set) (limit a b id : ℕ) (r s t : Set) → Grew xs ys → a < length xs → b < length xs → s ≡ set_at xs a → t ≡ set_at xs b → r ≡ joined limit s t → IsNumber ys id r → IsNumber ys id (joined limit (set_at ys a) (set_at ys b))
number-joined xs ys limit a b id r s t g la lb es et er h =
    subst (λ z. IsNumber ys id z) (er ∙ ap (λ u. joined limit u t) (es ∙ sym (set-kept xs ys a g la)) ∙ ap (λ u. joined limit (set_at ys a) u) (et ∙ sym (set-kept xs ys b g lb))) h

pub joined-right : (xs : List Set) (joins : Joins) (o : Option ℕ) (a b limit : ℕ) → AreJoined xs joins → o ≡ map.get joins (a, b, limit) → IfSome o (λ id. IsNumber xs id (joined limit (set_at xs a) (set_at xs b)))
joined-right xs joins None a b limit j e = tt
joined-right xs joins (Some id) a b limit j e = let h = j.at a b limit id (sym e) in h.2

pub grew-asked : {F : Type 0} (bs os ns : List Set) (s : Set) (r : Result ℕ F) → IfOk r (λ id. (bs ++ ns ≡ with_set (bs ++ os) s) × IsNumber (bs ++ ns) id s) → OnErr r (ns ≡ os) → Grew (bs ++ os) (bs ++ ns)
grew-asked bs os ns s (Ok id) ok err = with_set-grew_by (bs ++ os) (bs ++ ns) s ok.0
grew-asked bs os ns s (Err f) ok err = subst (λ zs. Grew (bs ++ os) (bs ++ zs)) (sym err) (grew-refl (bs ++ os))
