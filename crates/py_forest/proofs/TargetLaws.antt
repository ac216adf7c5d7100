-- Rows as targets, one kid after the other.
use Rattle.std.proofs.Common.{◌≡◌, ℕ, zero, suc, ◌+◌, ◌-◌, ◌<◌, ◌≤◌, Bool, true, false, ◌&&◌, if◌then◌else◌, Option, Some, None, unwrap_or, List, [], ◌∷◌, ◌++◌, length, map, get_or, take, drop, refl, sym, ap, subst, ◌∙◌, arith}
use Rattle.std.specs.Prelude.{All}
use Rattle.std.proofs.lemmas.List.{map-append, take_all, drop_all}
use Rattle.std.proofs.lemmas.List.Elements.{All-push}
use Rattle.std.proofs.Math.Seq.{drop-cons}
use Rattle.tree_nodes.specs.Trees.{Node, Trees, none, tree, Tree, pack}
use Rattle.tree_nodes.specs.Rows.{Row, tree_of, with_kind}
use Rattle.tree_nodes.specs.declared.kind.Kind.{Kind}
use Rattle.py_grammar.specs.Tests.{target_kind, is_group, is_bindable, are_targets, is_target, as_targets, as_target}
use Rattle.py_forest.proofs.TreeLaws.{Stay}

kid_next : (rows : List Row) (k : ℕ) (ks : List ℕ) → are_targets (pack (map (tree_of rows) (k ∷ ks))) ≡ (is_target (tree_of rows k) && are_targets (pack (map (tree_of rows) ks)))
kid_next rows k ks = refl

pub target_next : (rows : List Row) (ids : List ℕ) (i id : ℕ) → i < length ids → id ≡ get_or ids i id → are_targets (pack (map (tree_of rows) (drop i ids))) ≡ (is_target (tree_of rows id) && are_targets (pack (map (tree_of rows) (drop (i + 1) ids))))
target_next rows ids i id l e =
    let n : suc i ≡ i + 1 = omega arith in
    let here : drop i ids ≡ id ∷ drop (i + 1) ids = drop-cons ids i id l ∙ ap (λ (k : ℕ). k ∷ drop (suc i) ids) (sym e) ∙ ap (λ (m : ℕ). id ∷ drop m ids) n in
    ap (λ (xs : List ℕ). are_targets (pack (map (tree_of rows) xs))) here ∙ kid_next rows id (drop (i + 1) ids)

pub target_end : (rows : List Row) (ids : List ℕ) (i : ℕ) → length ids ≤ i → are_targets (pack (map (tree_of rows) (drop i ids))) ≡ true
target_end rows ids i l = let e = drop_all i ids l in rw e refl

-- ---- what is bound

pub stay_both : (a b c : List Row) → Stay a b → length a ≤ length b → Stay b c → Stay a c
stay_both a b c s l t n m = t n (omega arith) ∙ s n m

take_next : (ids : List ℕ) (i d : ℕ) → i < length ids → take (i + 1) ids ≡ take i ids ++ get_or ids i d ∷ []
take_next [] i d l = absurd (omega arith)
take_next (x ∷ ids) zero d l = refl
take_next (x ∷ ids) (suc n) d l = let m : suc n + 1 ≡ suc (n + 1) = omega arith in rw m (ap (λ (xs : List ℕ). x ∷ xs) (take_next ids n d (omega arith)))

pub made_turn : (b c : List Row) (kids kids' : List ℕ) (n : ℕ) → length b ≤ length c → All (λ k. k < length b) kids → kids' ≡ kids ++ n ∷ [] → n < length c → All (λ k. k < length c) kids'
made_turn b c kids kids' n long made e low = rw e (All-push (λ k. k < length c) kids n (λ i d l. omega (arith, made i d l)) low)

trees_same : (a b : List Row) (ids : List ℕ) → Stay a b → All (λ k. k < length a) ids → map (tree_of b) ids ≡ map (tree_of a) ids
trees_same a b [] s h = refl
trees_same a b (x ∷ ids) s h =
    let first = s x (h 0 x (omega arith)) in
    let others = trees_same a b ids s (λ k d l. h (suc k) d (omega arith)) in
    rw (first, others) refl

pub bind_turn : (a b c : List Row) (ids kids kids' : List ℕ) (i d n : ℕ) → Stay a b → Stay b c → All (λ k. k < length b) kids → map (tree_of b) kids ≡ map as_target (map (tree_of a) (take i ids)) → kids' ≡ kids ++ n ∷ [] → tree_of c n ≡ as_target (tree_of b (get_or ids i d))
    → i < length ids → get_or ids i d < length a → map (tree_of c) kids' ≡ map as_target (map (tree_of a) (take (i + 1) ids))
bind_turn a b c ids kids kids' i d n s t low done_ ek et l m =
    let id = get_or ids i d in
    let last : tree_of c n ≡ as_target (tree_of a id) = et ∙ ap as_target (s id m) in
    let front : map (tree_of c) kids ≡ map as_target (map (tree_of a) (take i ids)) = trees_same b c kids t low ∙ done_ in
    ap (map (tree_of c)) ek ∙ map-append (tree_of c) kids (n ∷ []) ∙ both front last ∙ sym (map-append as_target (map (tree_of a) (take i ids)) (tree_of a id ∷ []))
    ∙ ap (map as_target) (sym (map-append (tree_of a) (take i ids) (id ∷ []))) ∙ ap (λ (xs : List ℕ). map as_target (map (tree_of a) xs)) (sym (take_next ids i d l))
  where
    both : {xs ys : List Tree} {x y : Tree} → xs ≡ ys → x ≡ y → xs ++ x ∷ [] ≡ ys ++ y ∷ []
    both f g = rw (f, g) refl

all_bound : (ts : List Tree) → pack (map as_target ts) ≡ as_targets (pack ts)
all_bound [] = refl
all_bound (t ∷ ts) = let e = all_bound ts in rw e refl

kind_is : (o : Option Kind) (t : Tree) (ks : Trees) → o ≡ target_kind t.node.kind → with_kind (unwrap_or o t.node.kind) ks t ≡ record { node = (as_target t).node; kids = ks }
kind_is None t ks e = rw (sym e) refl
kind_is (Some k) t ks e = rw (sym e) refl

-- a target that is no group
pub single_target : (t u : Tree) (kind : Kind) → kind ≡ unwrap_or (target_kind t.node.kind) t.node.kind → is_group t.node.kind ≡ false → u ≡ with_kind kind t.kids t → u ≡ as_target t
single_target t u kind ek g e = e ∙ ap (λ (k : Kind). with_kind k t.kids t) ek ∙ kind_is (target_kind t.node.kind) t t.kids refl ∙ same
  where
    same : record { node = (as_target t).node; kids = t.kids } ≡ as_target t
    same = rw g refl

-- a group of targets
pub group_target : (a c : List Row) (ids kids : List ℕ) (i : ℕ) (t u v : Tree) (kind : Kind) → kind ≡ unwrap_or (target_kind t.node.kind) t.node.kind → is_group t.node.kind ≡ true → t.kids ≡ pack (map (tree_of a) ids)
    → map (tree_of c) kids ≡ map as_target (map (tree_of a) (take i ids)) → length ids ≤ i → v ≡ t → u ≡ with_kind kind (pack (map (tree_of c) kids)) v → u ≡ as_target t
group_target a c ids kids i t u v kind ek g et done_ l ev e =
    let all = take_all i ids l in
    let ks : pack (map (tree_of c) kids) ≡ as_targets t.kids = ap pack (done_ ∙ ap (λ (xs : List ℕ). map as_target (map (tree_of a) xs)) all) ∙ all_bound (map (tree_of a) ids) ∙ ap as_targets (sym et) in
    e ∙ ap (λ (w : Tree). with_kind kind (pack (map (tree_of c) kids)) w) ev ∙ ap (λ (xs : Trees). with_kind kind xs t) ks ∙ ap (λ (k : Kind). with_kind k (as_targets t.kids) t) ek ∙ kind_is (target_kind t.node.kind) t (as_targets t.kids) refl ∙ same
  where
    same : record { node = (as_target t).node; kids = as_targets t.kids } ≡ as_target t
    same = rw g refl
