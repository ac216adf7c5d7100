-- The names of each scope: rows of what is owned and of what is bound in the module, sorted, each name once.
use Rattle.std.proofs.Common.{◌≡◌, ℕ, zero, suc, ◌+◌, ◌-◌, ◌<◌, ◌≤◌, Bool, true, false, cond, eqb, not, ◌&&◌, ◌||◌, List, [], ◌∷◌, ◌++◌, length, get_or, map, filter, take, drop, ◌⊎◌, inl, inr, refl, sym, ap, subst, ◌∙◌, arith, Option, Some, None}
use Rattle.std.specs.Prelude.{Contains, ◌↔◌}
use Rattle.std.specs.List.{list_any, dedup, dedup_from, cons_option, slice_range, AllByRecursion, Any}
use Rattle.std.specs.Str.{bytes_eq}
use Rattle.std.specs.Cmp.{IsTotalOrder, unsigned_ties}
use Rattle.std.specs.Cmp.Lexicographic.{slice_cmp, nat_list_eq_equiv}
use Rattle.std.specs.List.Sorted.{IsSorted, IsSortedByKey, IsPermutation, IsStrictlySortedBy, IsNonDecreasingBy}
use Rattle.std.specs.List.Retain.{IsFiltered, DiffersFromLast}
use Rattle.std.specs.declared.cmp.Ordering.{Ordering}
use Rattle.std.specs.declared.cmp.Ordering.TheVariants.{Less, Equal, Greater}
use Rattle.std.specs.Ordering.{nat_cmp, is_eq, is_lt, eq_by_cmp, ordering_index, ordering_then, ordering_reverse}
use Rattle.std.proofs.lemmas.Bool.{eqb-true, ne_eqb}
use Rattle.std.proofs.lemmas.Bool.Decides.{eqb_tells}
use Rattle.std.proofs.lemmas.Cmp.{tied_itself, nat_cmp_total}
use Rattle.std.proofs.lemmas.List.Folds.{list_any-append}
use Rattle.std.proofs.lemmas.List.Elements.{Contains-get_or, Contains-append_right}
use Rattle.std.proofs.lemmas.List.Filters.{dedup_is}
use Rattle.std.proofs.lemmas.List.Kept.{IsStrictlySortedBy-dedup}
use Rattle.std.proofs.lemmas.List.Sorted.{list_any-IsPermutation, searchable_from_sorted}
use Rattle.std.proofs.lemmas.Map.Views.{list_any-from_Contains}
use Rattle.std.proofs.lemmas.Slice.Eq.{bytes_eq-Decides}
use Rattle.std.proofs.lemmas.List.{take-map, drop-map}
use Rattle.tree_nodes.specs.Trees.{Tree, count_of}
use Rattle.scope_rules.specs.Nodes.{Name, below, nodes_of}
use Rattle.scope_rules.specs.Marks.{Mark, is_mark, some_node}
use Rattle.scope_rules.specs.Declaring.{local_mark, declares_global, declares_nonlocal, has, binder_mark, in_module, is_local}
use Rattle.scope_rules.specs.Answers.{AreNamesOf}
use Rattle.scope_bind.specs.declared.row.Row.{Row}
use Rattle.scope_bind.specs.Rows.{row_cmp, key, is_of, row_at, rows_of, AreRowsUpTo}
use Rattle.scope_bind.specs.Search.{IsEdge}
use Rattle.scope_bind.specs.Owned.{owned_of, owned_mark, owned_row, in_module_of, module_mark, module_row, scope_rank, in_scope, names_in, AreNamed, AreEachOnce, AreNameRows}
use Rattle.scope_bind.proofs.TableLaws.{row_cmp_total, part, edges_ordered, one-of, of-mark}

-- ---- truth values

or-twice : (b c : Bool) → (b || c) ≡ (b || (b || c))
or-twice true c = refl
or-twice false c = refl

or-comm : (b c : Bool) → (b || c) ≡ (c || b)
or-comm true true = refl
or-comm true false = refl
or-comm false true = refl
or-comm false false = refl

or-false : (b : Bool) → (b || false) ≡ b
or-false true = refl
or-false false = refl

and-false : (b : Bool) → (b && false) ≡ false
and-false true = refl
and-false false = refl

and-twice : (a b : Bool) → (a && (a && b)) ≡ (a && b)
and-twice true b = refl
and-twice false b = refl

-- ---- each name once

any-deduped : (q : Row → Bool) (E : Row → Row → Bool) → ((a b : Row) → E a b ≡ true → q a ≡ q b) → (k : Row) (xs : List Row) → list_any q (dedup_from E k xs) ≡ (q k || list_any q xs)
any-deduped q E agree k [] = refl
any-deduped q E agree k (x ∷ xs) = by_test (E x k) refl (any-deduped q E agree k xs) (any-deduped q E agree x xs)
  where
    by_test : (b : Bool) → E x k ≡ b → list_any q (dedup_from E k xs) ≡ (q k || list_any q xs) → list_any q (dedup_from E x xs) ≡ (q x || list_any q xs)
        → list_any q (cond b (dedup_from E k xs) (k ∷ dedup_from E x xs)) ≡ (q k || (q x || list_any q xs))
    by_test true e first rest = first ∙ or-twice (q k) (list_any q xs) ∙ ap (λ (b : Bool). q k || (b || list_any q xs)) (sym (agree x k e))
    by_test false e first rest = ap (λ (b : Bool). q k || b) rest

any-dedup : (q : Row → Bool) (E : Row → Row → Bool) → ((a b : Row) → E a b ≡ true → q a ≡ q b) → (xs : List Row) → list_any q (dedup E xs) ≡ list_any q xs
any-dedup q E agree [] = refl
any-dedup q E agree (x ∷ xs) = any-deduped q E agree x xs

is-equal : (o : Ordering) → is_eq o ≡ true → o ≡ Equal
is-equal Less e = cc
is-equal Equal e = refl
is-equal Greater e = cc

same-of : (s : ℕ) (x : Name) (a b : Row) → eq_by_cmp row_cmp a b ≡ true → is_of s x a ≡ is_of s x b
same-of s x a b e = ap is_eq (row_cmp_total.congr a b (key s x) (is-equal (row_cmp a b) e))

-- ---- what the rows name

any-rows : (mark : ℕ → Option Mark) (s : ℕ) (x : Name) (ns : List ℕ) → list_any (is_of s x) (rows_of mark ns) ≡ list_any (λ n. is_mark s x (mark n)) ns
any-rows mark s x [] = refl
any-rows mark s x (n ∷ ns) = by_mark (mark n) (any-rows mark s x ns)
  where
    by_mark : (o : Option Mark) → list_any (is_of s x) (rows_of mark ns) ≡ list_any (λ n. is_mark s x (mark n)) ns
        → list_any (is_of s x) (cons_option (row_at n o) (rows_of mark ns)) ≡ (is_mark s x o || list_any (λ n. is_mark s x (mark n)) ns)
    by_mark None h = h
    by_mark (Some m) h = ap (λ (b : Bool). b || list_any (is_of s x) (rows_of mark ns)) (of-mark s x n m) ∙ ap (λ (b : Bool). is_mark s x (Some m) || b) h

any-and : (p q : ℕ → Bool) (c : Bool) → ((n : ℕ) → p n ≡ (q n && c)) → (ns : List ℕ) → list_any p ns ≡ (list_any q ns && c)
any-and p q c each [] = refl
any-and p q c each (n ∷ ns) = ap (λ (b : Bool). b || list_any p ns) (each n) ∙ ap (λ (b : Bool). (q n && c) || b) (any-and p q c each ns) ∙ by_cases (q n) c (list_any q ns)
  where
    by_cases : (a c b : Bool) → ((a && c) || (b && c)) ≡ ((a || b) && c)
    by_cases true true b = refl
    by_cases true false b = and-false b
    by_cases false c b = refl

same-mark : (s : ℕ) (x : Name) (m : Mark) (t : Tree) → is_mark s x (Some m) ≡ true → has t m.scope m.name ≡ has t s x
same-mark s x m t e = by_test (eqb m.scope s) (bytes_eq m.name x) refl refl e
  where
    by_test : (a b : Bool) → eqb m.scope s ≡ a → bytes_eq m.name x ≡ b → (a && b) ≡ true → has t m.scope m.name ≡ has t s x
    by_test true true e f g = ap (λ (o : ℕ). has t o m.name) (eqb-true m.scope s e) ∙ ap (has t s) ((bytes_eq-Decides m.name x).0 f)
    by_test true false e f g = cc
    by_test false b e f g = cc

owned-each : (t : Tree) (s : ℕ) (x : Name) (o : Option Mark) → is_mark s x (owned_of t o) ≡ (is_mark s x o && has t s x)
owned-each t s x None = refl
owned-each t s x (Some m) = by_test (is_mark s x (Some m)) (has t m.scope m.name) refl refl
  where
    by_test : (a b : Bool) → is_mark s x (Some m) ≡ a → has t m.scope m.name ≡ b → is_mark s x (cond b (Some m) None) ≡ (a && has t s x)
    by_test true true e f = e ∙ sym (sym (same-mark s x m t e) ∙ f)
    by_test true false e f = sym (sym (same-mark s x m t e) ∙ f)
    by_test false true e f = e
    by_test false false e f = refl

owned-any : (t : Tree) (s : ℕ) (x : Name) → list_any (λ n. is_mark s x (owned_mark t n)) (nodes_of t) ≡ (some_node (local_mark t) t s x && has t s x)
unfolding owned_mark some_node
owned-any t s x = any-and (λ n. is_mark s x (owned_mark t n)) (λ n. is_mark s x (local_mark t n)) (has t s x) (λ n. owned-each t s x (local_mark t n)) (nodes_of t)

has-twice : (t : Tree) (s : ℕ) (x : Name) → (some_node (local_mark t) t s x && has t s x) ≡ has t s x
unfolding has
has-twice t s x = and-twice (some_node (local_mark t) t s x) (not (declares_global t s x) && not (declares_nonlocal t s x))

eqb-turned : (m n : ℕ) → eqb m n ≡ eqb n m
eqb-turned m n = by_cases (eqb_tells m n)
  where
    by_cases : ((eqb m n ≡ true) × (m ≡ n)) ⊎ ((eqb m n ≡ false) × (m ≡ n → ⊥)) → eqb m n ≡ eqb n m
    by_cases (inl h) = ap (eqb m) (sym h.1) ∙ ap (λ (o : ℕ). eqb o m) h.1
    by_cases (inr h) = h.0 ∙ sym (ne_eqb n m (λ e. h.1 (sym e)))

module-each : (s : ℕ) (x : Name) (o : Option Mark) → is_mark s x (in_module_of o) ≡ (is_mark 0 x o && eqb s 0)
module-each s x None = refl
module-each s x (Some m) = by_cases (eqb_tells m.scope 0)
  where
    and-comm : (a b : Bool) → (a && b) ≡ (b && a)
    and-comm true true = refl
    and-comm true false = refl
    and-comm false true = refl
    and-comm false false = refl

    by_cases : ((eqb m.scope 0 ≡ true) × (m.scope ≡ 0)) ⊎ ((eqb m.scope 0 ≡ false) × (m.scope ≡ 0 → ⊥)) → is_mark s x (cond (eqb m.scope 0) (Some m) None) ≡ ((eqb m.scope 0 && bytes_eq m.name x) && eqb s 0)
    by_cases (inl h) =
        ap (λ (b : Bool). is_mark s x (cond b (Some m) None)) h.0 ∙ ap (λ (o : ℕ). eqb o s && bytes_eq m.name x) h.1 ∙ ap (λ (b : Bool). b && bytes_eq m.name x) (eqb-turned 0 s)
        ∙ and-comm (eqb s 0) (bytes_eq m.name x) ∙ ap (λ (b : Bool). (b && bytes_eq m.name x) && eqb s 0) (sym h.0)
    by_cases (inr h) = ap (λ (b : Bool). is_mark s x (cond b (Some m) None)) h.0 ∙ ap (λ (b : Bool). (b && bytes_eq m.name x) && eqb s 0) (sym h.0)

module-any : (t : Tree) (s : ℕ) (x : Name) → list_any (λ n. is_mark s x (module_mark t n)) (nodes_of t) ≡ (some_node (binder_mark t) t 0 x && eqb s 0)
unfolding module_mark some_node
module-any t s x = any-and (λ n. is_mark s x (module_mark t n)) (λ n. is_mark 0 x (binder_mark t n)) (eqb s 0) (λ n. module-each s x (binder_mark t n)) (nodes_of t)

local-by : (t : Tree) (s : ℕ) (x : Name) → (has t s x || (some_node (binder_mark t) t 0 x && eqb s 0)) ≡ is_local t s x
unfolding is_local in_module
local-by t s x = by_cases (eqb_tells s 0)
  where
    and-true : (b : Bool) → (b && true) ≡ b
    and-true true = refl
    and-true false = refl

    by_cases : ((eqb s 0 ≡ true) × (s ≡ 0)) ⊎ ((eqb s 0 ≡ false) × (s ≡ 0 → ⊥)) → (has t s x || (some_node (binder_mark t) t 0 x && eqb s 0)) ≡ cond (eqb s 0) (some_node (binder_mark t) t 0 x || has t 0 x) (has t s x)
    by_cases (inl h) =
        ap (λ (b : Bool). has t s x || (some_node (binder_mark t) t 0 x && b)) h.0 ∙ ap (λ (b : Bool). has t s x || b) (and-true (some_node (binder_mark t) t 0 x)) ∙ ap (λ (o : ℕ). has t o x || some_node (binder_mark t) t 0 x) h.1
        ∙ or-comm (has t 0 x) (some_node (binder_mark t) t 0 x) ∙ ap (λ (b : Bool). cond b (some_node (binder_mark t) t 0 x || has t 0 x) (has t s x)) (sym h.0)
    by_cases (inr h) =
        ap (λ (b : Bool). has t s x || (some_node (binder_mark t) t 0 x && b)) h.0 ∙ ap (λ (b : Bool). has t s x || b) (and-false (some_node (binder_mark t) t 0 x)) ∙ or-false (has t s x)
        ∙ ap (λ (b : Bool). cond b (some_node (binder_mark t) t 0 x || has t 0 x) (has t s x)) (sym h.0)

-- sorted rows, of equal ones the first
pub each_once : (rows sorted table : List Row) → IsPermutation rows sorted → IsSorted row_cmp sorted → IsFiltered (DiffersFromLast (eq_by_cmp row_cmp)) [] sorted table → AreEachOnce rows table
each_once rows sorted table moved up kept =
    let e = dedup_is (eq_by_cmp row_cmp) sorted table kept in
    record {
      ascending = subst (IsStrictlySortedBy row_cmp) (sym e) (IsStrictlySortedBy-dedup row_cmp_total (λ x y. refl) sorted up);
      same = λ s x. ap (list_any (is_of s x)) e ∙ any-dedup (is_of s x) (eq_by_cmp row_cmp) (same-of s x) sorted ∙ sym (list_any-IsPermutation (is_of s x) rows sorted moved);
    }

-- the rows of both marks, each once
pub name_rows : (t : Tree) (owned bound rows table : List Row) → AreRowsUpTo (owned_mark t) (count_of t) owned → AreRowsUpTo (module_mark t) (count_of t) bound → rows ≡ owned ++ bound → AreEachOnce rows table → AreNameRows t table
name_rows t owned bound rows table a b e once = record {
  ascending = once.ascending;
  named = λ s x.
      once.same s x ∙ ap (list_any (is_of s x)) e ∙ list_any-append (is_of s x) owned bound
      ∙ ap (λ (rs : List Row). list_any (is_of s x) rs || list_any (is_of s x) bound) a.is ∙ ap (λ (b : Bool). b || list_any (is_of s x) bound) (any-rows (owned_mark t) s x (nodes_of t) ∙ owned-any t s x ∙ has-twice t s x)
      ∙ ap (λ (rs : List Row). has t s x || list_any (is_of s x) rs) b.is ∙ ap (λ (b : Bool). has t s x || b) (any-rows (module_mark t) s x (nodes_of t) ∙ module-any t s x) ∙ local-by t s x;
}

-- ---- the rows of the marks

pub owned_at : (t : Tree) (n : ℕ) (m : Option Mark) → owned_row t (row_at n m) ≡ row_at n (owned_of t m)
owned_at t n None = refl
owned_at t n (Some m) = by_test (has t m.scope m.name)
  where
    by_test : (b : Bool) → cond b (row_at n (Some m)) None ≡ row_at n (cond b (Some m) None)
    by_test true = refl
    by_test false = refl

pub module_at : (n : ℕ) (m : Option Mark) → module_row (row_at n m) ≡ row_at n (in_module_of m)
module_at n None = refl
module_at n (Some m) = by_test (eqb m.scope 0)
  where
    by_test : (b : Bool) → cond b (row_at n (Some m)) None ≡ row_at n (cond b (Some m) None)
    by_test true = refl
    by_test false = refl

-- ---- the names of a scope

in-scope-is : (s : ℕ) (r : Row) → in_scope s r ≡ eqb (scope_rank s r) 1
in-scope-is s r = unsigned_ties r.scope s ∙ one-of (nat_cmp r.scope s)

range-map : (f : Row → Name) (rows : List Row) (i j : ℕ) → slice_range (map f rows) i j ≡ map f (slice_range rows i j)
range-map f rows i j = ap (λ (xs : List Name). take (j - i) xs) (drop-map f i rows) ∙ take-map f (j - i) (drop i rows)

names-ascend : (s : ℕ) (rows : List Row) → IsStrictlySortedBy row_cmp rows → IsStrictlySortedBy (slice_cmp nat_cmp) (map (λ r. r.name) (filter (in_scope s) rows))
unfolding IsStrictlySortedBy
names-ascend s [] h = h
names-ascend s (r ∷ rows) h = by_test (in_scope s r) refl (names-ascend s rows h.1)
  where
    then-less : (o p : Ordering) → o ≡ Equal → ordering_then o p ≡ Less → p ≡ Less
    then-less Less p e f = cc
    then-less Equal p e f = f
    then-less Greater p e f = cc

    less-name : (y : Row) → in_scope s r ≡ true → in_scope s y ≡ true → row_cmp r y ≡ Less → slice_cmp nat_cmp r.name y.name ≡ Less
    less-name y e f h =
        let same : r.scope ≡ y.scope = eqb-true r.scope s e ∙ sym (eqb-true y.scope s f) in
        then-less (nat_cmp r.scope y.scope) (slice_cmp nat_cmp r.name y.name) (ap (nat_cmp r.scope) (sym same) ∙ tied_itself nat_cmp_total r.scope) h

    all-less : (ys : List Row) → in_scope s r ≡ true → AllByRecursion (λ y. row_cmp r y ≡ Less) ys → AllByRecursion (λ n. slice_cmp nat_cmp r.name n ≡ Less) (map (λ y. y.name) (filter (in_scope s) ys))
    all-less [] e h = tt
    all-less (y ∷ ys) e h = by_head (in_scope s y) refl (all-less ys e h.1)
      where
        by_head : (b : Bool) → in_scope s y ≡ b → AllByRecursion (λ n. slice_cmp nat_cmp r.name n ≡ Less) (map (λ y. y.name) (filter (in_scope s) ys))
            → AllByRecursion (λ n. slice_cmp nat_cmp r.name n ≡ Less) (map (λ y. y.name) (cond b (y ∷ filter (in_scope s) ys) (filter (in_scope s) ys)))
        by_head true f rest = (less-name y e f h.0, rest)
        by_head false f rest = rest

    by_test : (b : Bool) → in_scope s r ≡ b → IsStrictlySortedBy (slice_cmp nat_cmp) (map (λ r. r.name) (filter (in_scope s) rows))
        → IsStrictlySortedBy (slice_cmp nat_cmp) (map (λ r. r.name) (cond b (r ∷ filter (in_scope s) rows) (filter (in_scope s) rows)))
    by_test true e rest = (all-less rows e h.0, rest)
    by_test false e rest = rest

of-row : (s : ℕ) (x : Name) (r : Row) → is_of s x r ≡ (in_scope s r && bytes_eq x r.name)
of-row s x r = of-mark s x r.node.0 (record { scope = r.scope; name = r.name }) ∙ ap (λ (b : Bool). in_scope s r && b) (nat_list_eq_equiv.symm r.name x)

names-any : (s : ℕ) (x : Name) (rows : List Row) → list_any (bytes_eq x) (map (λ r. r.name) (filter (in_scope s) rows)) ≡ list_any (is_of s x) rows
names-any s x [] = refl
names-any s x (r ∷ rows) = by_test (in_scope s r) (names-any s x rows) ∙ ap (λ (b : Bool). b || list_any (is_of s x) rows) (sym (of-row s x r))
  where
    by_test : (b : Bool) → list_any (bytes_eq x) (map (λ r. r.name) (filter (in_scope s) rows)) ≡ list_any (is_of s x) rows
        → list_any (bytes_eq x) (map (λ r. r.name) (cond b (r ∷ filter (in_scope s) rows) (filter (in_scope s) rows))) ≡ ((b && bytes_eq x r.name) || list_any (is_of s x) rows)
    by_test true h = ap (λ (b : Bool). bytes_eq x r.name || b) h
    by_test false h = h

any-contains : (x : Name) (xs : List Name) → list_any (bytes_eq x) xs ≡ true → Contains xs x
any-contains x [] e = cc
any-contains x (y ∷ ys) e = by_test (bytes_eq x y) refl (any-contains x ys) e
  where
    by_test : (b : Bool) → bytes_eq x y ≡ b → (list_any (bytes_eq x) ys ≡ true → Contains ys x) → (b || list_any (bytes_eq x) ys) ≡ true → Contains (y ∷ ys) x
    by_test true e later h = subst (Contains (y ∷ ys)) (sym ((bytes_eq-Decides x y).0 e)) (Contains-get_or (y ∷ ys) 0 y (omega arith))
    by_test false e later h = Contains-append_right (y ∷ []) ys x (later h)

-- the names of a scope ascend, and are those that are local to it
pub names_of_scope : (t : Tree) (rows : List Row) (s : ℕ) → AreNameRows t rows → AreNamesOf t s (names_in rows s)
unfolding names_in
names_of_scope t rows s h = record {
  ascending = names-ascend s rows h.ascending;
  all = λ x. (
    λ c. sym (h.named s x) ∙ sym (names-any s x rows) ∙ list_any-from_Contains nat_list_eq_equiv x (map (λ (r : Row). r.name) (filter (in_scope s) rows)) c,
    λ e. any-contains x (map (λ (r : Row). r.name) (filter (in_scope s) rows)) (names-any s x rows ∙ h.named s x ∙ e),
  );
}

-- what lies between the two edges of a scope are its names
pub names_found : (rows : List Row) (texts : List Name) (s i j : ℕ) → AreNamed rows texts → IsEdge (scope_rank s) 1 rows i → IsEdge (scope_rank s) 2 rows j → slice_range texts i j ≡ names_in rows s
unfolding names_in
names_found rows texts s i j h a b =
    let le = edges_ordered (scope_rank s) rows i j a b (key s []) in
    ap (λ (xs : List Name). slice_range xs i j) h.named ∙ range-map (λ r. r.name) rows i j ∙ ap (map (λ (r : Row). r.name)) (sym (part (in_scope s) (scope_rank s) (in-scope-is s) rows i j le a b))

-- ---- the rank of a scope does not fall

not-behind : (o p q : Ordering) → q ≡ ordering_reverse o → ordering_then o p ≡ Less → is_lt q ≡ false
not-behind Less p q e f = rw e refl
not-behind Equal p q e f = rw e refl
not-behind Greater p q e f = cc

scope-behind : (r y : Row) → row_cmp r y ≡ Less → is_lt (nat_cmp y.scope r.scope) ≡ false
scope-behind r y e = not-behind (nat_cmp r.scope y.scope) (slice_cmp nat_cmp r.name y.name) (nat_cmp y.scope r.scope) (nat_cmp_total.antisymm y.scope r.scope) e

scope-rises : (rows : List Row) → IsStrictlySortedBy row_cmp rows → (k : ℕ) (d : Row) → suc k < length rows → is_lt (nat_cmp (get_or rows (suc k) d).scope (get_or rows k d).scope) ≡ false
unfolding IsStrictlySortedBy
scope-rises [] h k d high = absurd (omega arith)
scope-rises (r ∷ []) h k d high = absurd (omega arith)
scope-rises (r ∷ y ∷ rows) h zero d high = scope-behind r y h.0.0
scope-rises (r ∷ y ∷ rows) h (suc k) d high = scope-rises (y ∷ rows) h.1 k d (omega arith)

scopes-rise : (rows : List Row) → IsStrictlySortedBy row_cmp rows → IsSortedByKey (λ (r : Row). r.scope) nat_cmp rows
scopes-rise rows h k d low high =
    let e : k + 1 ≡ suc k = omega arith in
    rw e (scope-rises rows h k d (omega arith))

pub scope_ranks_rise : (s : ℕ) (rows : List Row) → IsStrictlySortedBy row_cmp rows → IsNonDecreasingBy (scope_rank s) rows
scope_ranks_rise s rows h = searchable_from_sorted nat_cmp_total (λ (r : Row). r.scope) rows s (scopes-rise rows h)
