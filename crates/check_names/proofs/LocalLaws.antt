-- How many public names are local to a scope: as many as there are among its names, of which each is kept once.
use Rattle.std.proofs.Common.{◌≡◌, ℕ, Bool, true, false, cond, not, ◌&&◌, ◌||◌, List, [], ◌∷◌, filter, refl, sym, ap, subst, ◌∙◌, arith, Option, Some, None}
use Rattle.std.specs.Prelude.{◌==◌, Contains}
use Rattle.std.specs.List.{list_any, filter_map, cons_option, count_by, IsDistinct, AllByRecursion}
use Rattle.std.specs.List.Sorted.{IsStrictlySortedBy}
use Rattle.std.specs.Set.{is_member}
use Rattle.std.specs.Str.{bytes_eq}
use Rattle.std.specs.Cmp.Lexicographic.{slice_cmp, nat_list_eq_equiv}
use Rattle.std.specs.declared.cmp.Ordering.TheVariants.{Less}
use Rattle.std.specs.Ordering.{nat_cmp, is_eq}
use Rattle.std.proofs.lemmas.List.Elements.{Contains-get_or, Contains-append_right}
use Rattle.std.proofs.lemmas.List.Kept.{IsStrictlySortedBy-filter}
use Rattle.std.proofs.lemmas.List.Sums.{length-filter}
use Rattle.std.proofs.lemmas.Map.Made.{is_member-filter, length-from_keys}
use Rattle.std.proofs.lemmas.Map.Text.{is_eq-slice_cmp}
use Rattle.std.proofs.lemmas.Map.Views.{list_any-from_Contains}
use Rattle.std.proofs.lemmas.Slice.Eq.{bytes_eq-Decides}
use Rattle.tree_nodes.specs.Trees.{Tree}
use Rattle.scope_rules.specs.Nodes.{Name, nodes_of}
use Rattle.scope_rules.specs.Binding.{makes_local, binds, is_bare, own_scope}
use Rattle.scope_rules.specs.Marks.{Mark, is_mark, mark_in, mark_at, some_node}
use Rattle.scope_rules.specs.Declaring.{local_mark, has, home, binder_mark, binder_mark_of, in_module, is_local, declares_global, declares_nonlocal}
use Rattle.scope_rules.specs.Answers.{AreNamesOf}
use Rattle.rule_nodes.specs.Nodes.{is_public}
use Rattle.check_names.specs.Locals.{local_names, local_count}

-- ---- truth values

same-truth : (b c : Bool) → (b ≡ true → c ≡ true) → (c ≡ true → b ≡ true) → b ≡ c
same-truth true true f g = refl
same-truth true false f g = sym (f refl)
same-truth false true f g = g refl
same-truth false false f g = refl

and-left : (a b : Bool) → (a && b) ≡ true → a ≡ true
and-left true b e = refl
and-left false b e = e

and-right : (a b : Bool) → (a && b) ≡ true → b ≡ true
and-right true b e = e
and-right false b e = cc

one-of : {R : Type 0} (a b : Bool) → (a || b) ≡ true → (a ≡ true → R) → (b ≡ true → R) → R
one-of true b e f g = f refl
one-of false b e f g = g e

-- ---- each name is kept once

all-apart : (x : Name) (ys : List Name) → AllByRecursion (λ y. slice_cmp nat_cmp x y ≡ Less) ys → AllByRecursion (λ y. bytes_eq x y ≡ false) ys
all-apart x [] h = tt
all-apart x (y ∷ ys) h = (sym (is_eq-slice_cmp x y) ∙ ap is_eq h.0, all-apart x ys h.1)

distinct-names : (xs : List Name) → IsStrictlySortedBy (slice_cmp nat_cmp) xs → IsDistinct bytes_eq xs
unfolding IsStrictlySortedBy IsDistinct
distinct-names [] h = tt
distinct-names (x ∷ xs) h = (all-apart x xs h.0, distinct-names xs h.1)

any-contains : (x : Name) (xs : List Name) → list_any (bytes_eq x) xs ≡ true → Contains xs x
any-contains x [] e = cc
any-contains x (y ∷ ys) e = by_test (bytes_eq x y) refl (any-contains x ys) e
  where
    by_test : (b : Bool) → bytes_eq x y ≡ b → (list_any (bytes_eq x) ys ≡ true → Contains ys x) → (b || list_any (bytes_eq x) ys) ≡ true → Contains (y ∷ ys) x
    by_test true e later h = subst (Contains (y ∷ ys)) (sym ((bytes_eq-Decides x y).0 e)) (Contains-get_or (y ∷ ys) 0 y (omega arith))
    by_test false e later h = Contains-append_right (y ∷ []) ys x (later h)

-- the names of a scope are those that are local to it
names-local : (t : Tree) (s : ℕ) (xs : List Name) (x : Name) → AreNamesOf t s xs → is_member bytes_eq xs x ≡ is_local t s x
names-local t s xs x h =
    same-truth (is_member bytes_eq xs x) (is_local t s x) (λ e. (h.all x).0 (any-contains x xs e)) (λ e. list_any-from_Contains nat_list_eq_equiv x xs ((h.all x).1 e))

-- ---- some node makes each local name

abbrev named : Name → Option Name → Bool
named x None = false
named x (Some y) = bytes_eq x y

any-named : (f : ℕ → Option Name) (x : Name) (ns : List ℕ) → list_any (λ n. named x (f n)) ns ≡ list_any (bytes_eq x) (filter_map f ns)
any-named f x [] = refl
any-named f x (n ∷ ns) = by_case (f n) (any-named f x ns)
  where
    by_case : (o : Option Name) → list_any (λ n. named x (f n)) ns ≡ list_any (bytes_eq x) (filter_map f ns) → (named x o || list_any (λ n. named x (f n)) ns) ≡ list_any (bytes_eq x) (cons_option o (filter_map f ns))
    by_case None h = h
    by_case (Some y) h = ap (λ (b : Bool). bytes_eq x y || b) h

any-weaker : (p q : ℕ → Bool) → ((n : ℕ) → p n ≡ true → q n ≡ true) → (ns : List ℕ) → list_any p ns ≡ true → list_any q ns ≡ true
any-weaker p q weaker [] e = e
any-weaker p q weaker (n ∷ ns) e = by_test (q n) refl (any-weaker p q weaker ns)
  where
    by_test : (b : Bool) → q n ≡ b → (list_any p ns ≡ true → list_any q ns ≡ true) → (b || list_any q ns) ≡ true
    by_test true f later = refl
    by_test false f later = one-of (p n) (list_any p ns) e (λ g. let h = weaker n g in cc) later

in-named : (s o : ℕ) (x : Name) (m : Option Name) → is_mark s x (mark_in o m) ≡ true → named x m ≡ true
in-named s o x None e = e
in-named s o x (Some y) e = nat_list_eq_equiv.symm x y ∙ and-right (o == s) (bytes_eq y x) e

at-named : (s : ℕ) (x y : Name) (h : Option ℕ) → is_mark s x (mark_at h y) ≡ true → bytes_eq x y ≡ true
at-named s x y None e = cc
at-named s x y (Some o) e = nat_list_eq_equiv.symm x y ∙ and-right (o == s) (bytes_eq y x) e

bound-named : (t : Tree) (s o : ℕ) (x : Name) (m : Option Name) → is_mark s x (binder_mark_of t o m) ≡ true → named x m ≡ true
bound-named t s o x None e = e
bound-named t s o x (Some y) e = at-named s x y (home t o y) e

unbare-named : (x : Name) (b : Bool) (m : Option Name) → named x (cond b None m) ≡ true → named x m ≡ true
unbare-named x true None e = e
unbare-named x true (Some y) e = let h : false ≡ true = e in cc
unbare-named x false m e = e

binder-named : (t : Tree) (s n : ℕ) (x : Name) → is_mark s x (binder_mark t n) ≡ true → named x (makes_local t n) ≡ true
unfolding binder_mark binds
binder-named t s n x e = unbare-named x (is_bare t n) (makes_local t n) (bound-named t s (own_scope t n) x (binds t n) e)

local-named : (t : Tree) (s n : ℕ) (x : Name) → is_mark s x (local_mark t n) ≡ true → named x (makes_local t n) ≡ true
unfolding local_mark
local-named t s n x e = in-named s (own_scope t n) x (makes_local t n) e

some-named : (mark : ℕ → Option Mark) (t : Tree) (s : ℕ) (x : Name) → ((n : ℕ) → is_mark s x (mark n) ≡ true → named x (makes_local t n) ≡ true) → some_node mark t s x ≡ true → is_member bytes_eq (filter_map (makes_local t) (nodes_of t)) x ≡ true
unfolding some_node
some-named mark t s x says e =
    sym (any-named (makes_local t) x (nodes_of t)) ∙ any-weaker (λ n. is_mark s x (mark n)) (λ n. named x (makes_local t n)) says (nodes_of t) e

had-named : (t : Tree) (s : ℕ) (x : Name) → has t s x ≡ true → is_member bytes_eq (filter_map (makes_local t) (nodes_of t)) x ≡ true
unfolding has
had-named t s x e =
    some-named (local_mark t) t s x (λ n. local-named t s n x) (and-left (some_node (local_mark t) t s x) (not (declares_global t s x) && not (declares_nonlocal t s x)) e)

local-made : (t : Tree) (s : ℕ) (x : Name) → is_local t s x ≡ true → is_member bytes_eq (filter_map (makes_local t) (nodes_of t)) x ≡ true
unfolding is_local in_module
local-made t s x e = by_test (s == 0) e
  where
    in-module : in_module t x ≡ true → is_member bytes_eq (filter_map (makes_local t) (nodes_of t)) x ≡ true
    in-module e = one-of (some_node (binder_mark t) t 0 x) (has t 0 x) e (some-named (binder_mark t) t 0 x (λ n. binder-named t 0 n x)) (had-named t 0 x)

    by_test : (b : Bool) → cond b (in_module t x) (has t s x) ≡ true → is_member bytes_eq (filter_map (makes_local t) (nodes_of t)) x ≡ true
    by_test true e = in-module e
    by_test false e = had-named t s x e

-- ---- how many there are

and-both : (l p m : Bool) → (l ≡ true → m ≡ true) → (l && p) ≡ (m && (p && l))
and-both true true true f = refl
and-both true false true f = refl
and-both true p false f = let e = f refl in cc
and-both false true true f = refl
and-both false false true f = refl
and-both false p false f = refl

same-test : (p : Name → Bool) (x y : Name) → bytes_eq x y ≡ true → p x ≡ p y
same-test p x y e = ap p ((bytes_eq-Decides x y).0 e)

same-members : (t : Tree) (s : ℕ) (xs : List Name) (x : Name) → AreNamesOf t s xs → is_member bytes_eq (filter is_public xs) x ≡ is_member bytes_eq (local_names t s) x
same-members t s xs x h =
    let made = filter_map (makes_local t) (nodes_of t) in
    let test = λ (y : Name). is_public y && is_local t s y in
    is_member-filter nat_list_eq_equiv is_public x (same-test is_public x) xs
    ∙ ap (λ (b : Bool). b && is_public x) (names-local t s xs x h)
    ∙ and-both (is_local t s x) (is_public x) (is_member bytes_eq made x) (local-made t s x)
    ∙ sym (is_member-filter nat_list_eq_equiv test x (same-test test x) made)

-- the public ones among the names of a scope are as many as are local to it
pub public_count : (t : Tree) (s : ℕ) (xs : List Name) → AreNamesOf t s xs → count_by is_public xs ≡ local_count t s
public_count t s xs h =
    sym (length-filter is_public xs)
    ∙ length-from_keys nat_list_eq_equiv (filter is_public xs) (local_names t s) (distinct-names (filter is_public xs) (IsStrictlySortedBy-filter (slice_cmp nat_cmp) is_public xs h.ascending)) (λ x. same-members t s xs x h)
