-- A sorted table gives what a filter of the rows gives, and a stable sort keeps what a filter of ties gives.
use Rattle.std.proofs.Common.{◌≡◌, ℕ, zero, suc, ◌+◌, ◌-◌, ◌<◌, ◌≤◌, Bool, true, false, cond, eqb, not, ◌&&◌, List, [], ◌∷◌, ◌++◌, length, get_or, take, drop, map, filter, refl, sym, ap, subst, ◌∙◌, arith, Option, Some, None, ◌||◌, option_to_list, ltb, leb}
use Rattle.std.proofs.lemmas.Bool.{ne_eqb, ltb-true, ltb-false}
use Rattle.std.proofs.Math.Dec.{eqb-suc-zero}
use Rattle.std.specs.List.{filter_map, cons_option, list_any, slice_range}
use Rattle.std.specs.Str.{bytes_eq}
use Rattle.std.specs.Cmp.{IsTotalOrder, unsigned_ties}
use Rattle.std.specs.Cmp.Rules.{comparing}
use Rattle.std.specs.Cmp.Lexicographic.{slice_cmp}
use Rattle.std.specs.List.Sorted.{IsSorted, IsStable, ties, IsNonDecreasingBy}
use Rattle.std.specs.declared.cmp.Ordering.{Ordering}
use Rattle.std.specs.declared.cmp.Ordering.TheVariants.{Less, Equal, Greater}
use Rattle.std.specs.Ordering.{nat_cmp, is_eq, is_lt, ordering_index, ordering_reverse, ordering_then}
use Rattle.std.proofs.Common.{rules}
use Rattle.std.proofs.lemmas.List.{take-map, drop-map, length-map}
use Rattle.std.proofs.lemmas.List.Elements.{filter_agree, filter_map-append}
use Rattle.std.proofs.lemmas.List.Sorted.{searchable_from_sorted}
use Rattle.std.proofs.lemmas.Map.Text.{is_eq-slice_cmp}
use Rattle.lint_values.specs.declared.place.NodeId.{NodeId}
use Rattle.tree_nodes.specs.Trees.{Tree, count_of}
use Rattle.tree_nodes.specs.Kept.{number_of}
use Rattle.scope_rules.specs.Nodes.{Name, below, nodes_of}
use Rattle.scope_rules.specs.Marks.{Mark, is_mark, some_node, nodes_with}
use Rattle.scope_bind.specs.declared.row.Row.{Row}
use Rattle.scope_bind.specs.Rows.{row_cmp, key, rank, is_of, nodes_in, row_at, rows_of, AreRowsUpTo, IsTableOf}
use Rattle.scope_bind.specs.Search.{IsKept, IsEdge}
use Rattle.scope_bind.proofs.ListLaws.{below_more}

pub row_cmp_total : IsTotalOrder row_cmp
row_cmp_total = search (comparing, rules) depth 12

-- ---- the part of a rank

edge-tail : (n : Row → ℕ) (t : ℕ) (r : Row) (rows : List Row) (i : ℕ) → IsEdge n t (r ∷ rows) (suc i) → IsEdge n t rows i
edge-tail n t r rows i e = let b = e.bound in record { bound = omega arith; lower = λ k d low. e.lower (suc k) d (omega arith); upper = λ k d low high. e.upper (suc k) d (omega arith) (omega arith) }

edge-start : (n : Row → ℕ) (t : ℕ) (r : Row) (rows : List Row) → IsEdge n t (r ∷ rows) 0 → IsEdge n t rows 0
edge-start n t r rows e = record { bound = omega arith; lower = λ k d low. absurd (omega arith); upper = λ k d low high. e.upper (suc k) d (omega arith) (omega arith) }

range-tail : {X : Type 0} (r : X) (rows : List X) (i j : ℕ) → slice_range (r ∷ rows) (suc i) (suc j) ≡ slice_range rows i j
range-tail r rows i j = let e : suc j - suc i ≡ j - i = omega arith in rw e refl

range-head : {X : Type 0} (r : X) (rows : List X) (j : ℕ) → slice_range (r ∷ rows) 0 (suc j) ≡ r ∷ slice_range rows 0 j
range-head r rows j = let e : suc j - 0 ≡ suc j = omega arith in let f : j - 0 ≡ j = omega arith in rw (e, f) refl

range-none : {X : Type 0} (rows : List X) → slice_range rows 0 0 ≡ []
range-none rows = refl

range-empty : {X : Type 0} (i j : ℕ) → slice_range {X = X} [] i j ≡ []
range-empty i j = grind arith

is-one : (q : Row → Bool) (n : Row → ℕ) → ((r : Row) → q r ≡ eqb (n r) 1) → (r : Row) → n r ≡ 1 → q r ≡ true
is-one q n same r e = same r ∙ rw e refl

is-other : (q : Row → Bool) (n : Row → ℕ) → ((r : Row) → q r ≡ eqb (n r) 1) → (r : Row) → (n r ≡ 1 → ⊥) → q r ≡ false
is-other q n same r e = same r ∙ ne_eqb (n r) 1 e

pub part : (q : Row → Bool) (n : Row → ℕ) → ((r : Row) → q r ≡ eqb (n r) 1) → (rows : List Row) (i j : ℕ) → i ≤ j → IsEdge n 1 rows i → IsEdge n 2 rows j → filter q rows ≡ slice_range rows i j
part q n same [] i j le a b = sym (range-empty i j)
part q n same (r ∷ rows) (suc i) zero le a b = absurd (omega arith)
part q n same (r ∷ rows) (suc i) (suc j) le a b =
    let h = a.lower 0 r (omega arith) in
    rw (is-other q n same r (λ e. absurd (omega arith))) (part q n same rows i j (omega arith) (edge-tail n 1 r rows i a) (edge-tail n 2 r rows j b) ∙ sym (range-tail r rows i j))
part q n same (r ∷ rows) zero (suc j) le a b =
    let h = a.upper 0 r (omega arith) (omega arith) in
    let g = b.lower 0 r (omega arith) in
    rw (is-one q n same r (omega arith)) (ap (λ (rs : List Row). r ∷ rs) (part q n same rows zero j (omega arith) (edge-start n 1 r rows a) (edge-tail n 2 r rows j b)) ∙ sym (range-head r rows j))
part q n same (r ∷ rows) zero zero le a b =
    let g = b.upper 0 r (omega arith) (omega arith) in
    rw (is-other q n same r (λ e. absurd (omega arith))) (part q n same rows zero zero (omega arith) (edge-start n 1 r rows a) (edge-start n 2 r rows b))

pub one-of : (o : Ordering) → is_eq o ≡ eqb (ordering_index o) 1
one-of Less = refl
one-of Equal = refl
one-of Greater = refl

pub edges_ordered : (n : Row → ℕ) (rows : List Row) (i j : ℕ) → IsEdge n 1 rows i → IsEdge n 2 rows j → Row → i ≤ j
edges_ordered n rows i j a b d = by_test (ltb j i) refl
  where
    by_test : (t : Bool) → ltb j i ≡ t → i ≤ j
    by_test false e = omega (arith, ltb-false j i e)
    by_test true e = let l = ltb-true j i e in let c = a.bound in absurd (omega (arith, a.lower j d l, b.upper j d (omega arith) (omega arith)))

range-map : (f : Row → NodeId) (rows : List Row) (i j : ℕ) → slice_range (map f rows) i j ≡ map f (slice_range rows i j)
range-map f rows i j = ap (take (j - i)) (drop-map f i rows) ∙ take-map f (j - i) (drop i rows)

-- what lies between the two edges of a name are its nodes
pub found : (rows : List Row) (nodes : List NodeId) (s : ℕ) (x : Name) (i j : ℕ) → IsKept rows nodes → IsEdge (rank s x) 1 rows i → IsEdge (rank s x) 2 rows j → slice_range nodes i j ≡ nodes_in rows s x
unfolding nodes_in
found rows nodes s x i j kept a b =
    let le = edges_ordered (rank s x) rows i j a b (key s x) in
    ap (λ (ns : List NodeId). slice_range ns i j) kept.numbered ∙ range-map (λ r. r.node) rows i j
    ∙ ap (map (λ (r : Row). r.node)) (sym (part (is_of s x) (rank s x) (λ r. one-of (row_cmp r (key s x))) rows i j le a b))

-- in sorted rows the rank of a name does not fall
pub ranks_rise : (s : ℕ) (x : Name) (rows : List Row) → IsSorted row_cmp rows → IsNonDecreasingBy (rank s x) rows
ranks_rise s x rows up = searchable_from_sorted row_cmp_total (λ r. r) rows (key s x) up

-- ---- rows that come in source order

tie-by : (o p : Ordering) → p ≡ ordering_reverse o → is_eq o ≡ (not (is_lt p) && not (is_lt o))
tie-by Less p e = rw e refl
tie-by Equal p e = rw e refl
tie-by Greater p e = rw e refl

tied : (s : ℕ) (x : Name) (r : Row) → is_of s x r ≡ ties (λ a b. is_lt (row_cmp a b)) (key s x) r
tied s x r = tie-by (row_cmp r (key s x)) (row_cmp (key s x) r) (row_cmp_total.antisymm (key s x) r)

and-eq : (o p : Ordering) → is_eq (ordering_then o p) ≡ (is_eq o && is_eq p)
and-eq Less p = refl
and-eq Equal p = refl
and-eq Greater p = refl

pub of-mark : (s : ℕ) (x : Name) (n : ℕ) (m : Mark) → is_of s x (record { scope = m.scope; name = m.name; node = record { 0 = n } }) ≡ is_mark s x (Some m)
of-mark s x n m =
    and-eq (nat_cmp m.scope s) (slice_cmp nat_cmp m.name x)
    ∙ ap (λ (b : Bool). b && is_eq (slice_cmp nat_cmp m.name x)) (sym (unsigned_ties m.scope s))
    ∙ ap (λ (b : Bool). eqb m.scope s && b) (is_eq-slice_cmp m.name x)

-- the numbers of the rows of a name are the nodes with its mark
marked : (mark : ℕ → Option Mark) (s : ℕ) (x : Name) (ns : List ℕ) → map number_of (map (λ (r : Row). r.node) (filter (is_of s x) (rows_of mark ns))) ≡ filter (λ n. is_mark s x (mark n)) ns
marked mark s x [] = refl
marked mark s x (n ∷ ns) = by_mark (mark n) (marked mark s x ns)
  where
    by_test : (m : Mark) (rows : List Row) (b : Bool) → map number_of (map (λ (r : Row). r.node) (filter (is_of s x) rows)) ≡ filter (λ n. is_mark s x (mark n)) ns
        → map number_of (map (λ (r : Row). r.node) (cond b ((record { scope = m.scope; name = m.name; node = record { 0 = n } }) ∷ filter (is_of s x) rows) (filter (is_of s x) rows))) ≡ cond b (n ∷ filter (λ n. is_mark s x (mark n)) ns) (filter (λ n. is_mark s x (mark n)) ns)
    by_test m rows true h = ap (λ (ks : List ℕ). n ∷ ks) h
    by_test m rows false h = h

    by_mark : (o : Option Mark) → map number_of (map (λ (r : Row). r.node) (filter (is_of s x) (rows_of mark ns))) ≡ filter (λ n. is_mark s x (mark n)) ns
        → map number_of (map (λ (r : Row). r.node) (filter (is_of s x) (cons_option (row_at n o) (rows_of mark ns)))) ≡ cond (is_mark s x o) (n ∷ filter (λ n. is_mark s x (mark n)) ns) (filter (λ n. is_mark s x (mark n)) ns)
    by_mark None h = h
    by_mark (Some m) h = rw (of-mark s x n m) (by_test m (rows_of mark ns) (is_mark s x (Some m)) h)

-- a table of the rows of all marks finds them
pub table_of : (mark : ℕ → Option Mark) (t : Tree) (rows table : List Row) → AreRowsUpTo mark (count_of t) rows → IsStable row_cmp rows table → IsTableOf mark t table
unfolding nodes_in nodes_with
table_of mark t rows table h stable = record {
  finds = λ s x.
      ap (λ (rs : List Row). map number_of (map (λ (r : Row). r.node) rs)) (filter_agree (is_of s x) (ties (λ a b. is_lt (row_cmp a b)) (key s x)) (tied s x) table ∙ stable (key s x) ∙ sym (filter_agree (is_of s x) (ties (λ a b. is_lt (row_cmp a b)) (key s x)) (tied s x) rows))
      ∙ ap (λ (rs : List Row). map number_of (map (λ (r : Row). r.node) (filter (is_of s x) rs))) h.is ∙ marked mark s x (nodes_of t);
}

-- ---- whether there is one

not-empty : {X : Type 0} (p : X → Bool) (xs : List X) → not (eqb (length (filter p xs)) 0) ≡ list_any p xs
not-empty p [] = refl
not-empty p (x ∷ xs) = by_test (p x) (not-empty p xs)
  where
    by_test : (b : Bool) → not (eqb (length (filter p xs)) 0) ≡ list_any p xs → not (eqb (length (cond b (x ∷ filter p xs) (filter p xs))) 0) ≡ (b || list_any p xs)
    by_test true h = ap not (eqb-suc-zero (length (filter p xs)))
    by_test false h = h

same-length : (xs : List NodeId) (ys : List ℕ) → map number_of xs ≡ ys → length xs ≡ length ys
same-length xs ys e = sym (length-map xs number_of) ∙ ap length e

pub table_has : (mark : ℕ → Option Mark) (t : Tree) (table : List Row) (s : ℕ) (x : Name) → IsTableOf mark t table → not (eqb (length (nodes_in table s x)) 0) ≡ some_node mark t s x
unfolding some_node nodes_with
table_has mark t table s x h = ap (λ (n : ℕ). not (eqb n 0)) (same-length (nodes_in table s x) (nodes_with mark t s x) (h.finds s x)) ∙ not-empty (λ n. is_mark s x (mark n)) (nodes_of t)

-- ---- rows, one node after another

pub rows_none : (mark : ℕ → Option Mark) → AreRowsUpTo mark 0 []
rows_none mark = record { is = refl }

consed-nil : (o : Option Row) → cons_option o [] ≡ option_to_list o
consed-nil None = refl
consed-nil (Some r) = refl

pub rows_more : (mark : ℕ → Option Mark) (n : ℕ) (rows : List Row) (r : Option Row) → AreRowsUpTo mark n rows → r ≡ row_at n (mark n) → AreRowsUpTo mark (n + 1) (rows ++ option_to_list r)
rows_more mark n rows r h e = record {
  is = ap (λ (rs : List Row). rs ++ option_to_list r) h.is ∙ ap (λ (o : Option Row). rows_of mark (below n) ++ option_to_list o) e ∙ ap (λ (rs : List Row). rows_of mark (below n) ++ rs) (sym (consed-nil (row_at n (mark n))))
      ∙ sym (filter_map-append (λ m. row_at m (mark m)) (below n) (n ∷ [])) ∙ ap (rows_of mark) (sym (below_more n));
}
