-- How deep trees are nested, one after the other.
use Rattle.std.proofs.Common.{◌≡◌, ℕ, zero, suc, ◌+◌, ◌-◌, ◌<◌, ◌≤◌, max, nat_le, true, false, ◌&&◌, List, [], ◌∷◌, length, map, get_or, drop, refl, sym, ap, ◌∙◌, ⊎_elim, arith}
use Rattle.std.proofs.lemmas.Bool.{le-leb}
use Rattle.std.proofs.lemmas.Bool.Decides.{leb_tells}
use Rattle.std.proofs.lemmas.List.{drop_all}
use Rattle.std.proofs.Math.Seq.{drop-cons}
use Rattle.tree_nodes.specs.Trees.{Tree, pack}
use Rattle.tree_nodes.specs.Back.{no_tree}
use Rattle.tree_nodes.specs.Rows.{Row, tree_of}
use Rattle.py_language.specs.Nesting.{nesting, nesting_in, nesting_of}
use Rattle.py_grammar.specs.Weights.{weight}

beyond : (a b : ℕ) → b < a → nat_le a b ≡ false
beyond a b l = ⊎_elim (λ p. absurd (omega (arith, p.1, l))) (λ p. p.0) (leb_tells a b)

both_below : (a b n : ℕ) → nat_le (max a b) n ≡ (nat_le a n && nat_le b n)
both_below a b n =
    ⊎_elim
    (λ p. ⊎_elim (λ q. rw (p.0, q.0) (le-leb (max a b) n (omega (arith, p.1, q.1)))) (λ q. rw (p.0, q.0) (beyond (max a b) n (omega (arith, q.1)))) (leb_tells b n))
    (λ p. rw p.0 (beyond (max a b) n (omega (arith, p.1))))
    (leb_tells a n)

less : (w n left : ℕ) → w ≤ left → nat_le (w + n) left ≡ nat_le n (left - w)
less w n left l = ⊎_elim (λ p. p.0 ∙ sym (le-leb n (left - w) (omega (arith, p.1)))) (λ p. p.0 ∙ sym (beyond n (left - w) (omega (arith, p.1, l)))) (leb_tells (w + n) left)

-- a node that weighs too much alone
pub too_deep : (t : Tree) (left : ℕ) → left < weight t.node.kind → nat_le (nesting weight t) left ≡ false
too_deep t left l = beyond (nesting weight t) left (omega arith)

-- what is left below the root
pub below_root : (t : Tree) (left : ℕ) → weight t.node.kind ≤ left → nat_le (nesting weight t) left ≡ nat_le (nesting_in weight t.kids) (left - weight t.node.kind)
below_root t left l = less (weight t.node.kind) (nesting_in weight t.kids) left l

pub kid_next : (rows : List Row) (ids : List ℕ) (i id left : ℕ) → i < length ids → id ≡ get_or ids i id
    → nat_le (nesting_in weight (pack (map (tree_of rows) (drop i ids)))) left ≡ (nat_le (nesting weight (tree_of rows id)) left && nat_le (nesting_in weight (pack (map (tree_of rows) (drop (i + 1) ids)))) left)
kid_next rows ids i id left l e =
    let n : suc i ≡ i + 1 = omega arith in
    let here : drop i ids ≡ id ∷ drop (i + 1) ids = drop-cons ids i id l ∙ ap (λ (k : ℕ). k ∷ drop (suc i) ids) (sym e) ∙ ap (λ (m : ℕ). id ∷ drop m ids) n in
    ap (λ (xs : List ℕ). nat_le (nesting_in weight (pack (map (tree_of rows) xs))) left) here ∙ both_below (nesting weight (tree_of rows id)) (nesting_in weight (pack (map (tree_of rows) (drop (i + 1) ids)))) left

pub kid_end : (rows : List Row) (ids : List ℕ) (i left : ℕ) → length ids ≤ i → nat_le (nesting_in weight (pack (map (tree_of rows) (drop i ids)))) left ≡ true
kid_end rows ids i left l = let e = drop_all i ids l in rw e (le-leb 0 left (omega arith))

drop_next : (xs : List Tree) (place : ℕ) → place < length xs → drop place xs ≡ get_or xs place no_tree ∷ drop (place + 1) xs
drop_next [] n l = absurd (omega arith)
drop_next (x ∷ xs) zero l = refl
drop_next (x ∷ xs) (suc n) l = let e : suc n + 1 ≡ suc (n + 1) = omega arith in rw e (drop_next xs n (omega arith))

pub tree_next : (xs : List Tree) (place left : ℕ) → place < length xs → nat_le (nesting_of weight (drop place xs)) left ≡ (nat_le (nesting weight (get_or xs place no_tree)) left && nat_le (nesting_of weight (drop (place + 1) xs)) left)
tree_next xs place left l = let e = drop_next xs place l in rw e (both_below (nesting weight (get_or xs place no_tree)) (nesting_of weight (drop (place + 1) xs)) left)

pub tree_end : (xs : List Tree) (place left : ℕ) → length xs ≤ place → nat_le (nesting_of weight (drop place xs)) left ≡ true
tree_end xs place left l = let e = drop_all place xs l in rw e (le-leb 0 left (omega arith))
