-- The conditions on order as they are told from the front.
use Rattle.std.proofs.Common.{◌≡◌, ℕ, zero, suc, ◌+◌, ◌<◌, ◌≤◌, Bool, true, false, if◌then◌else◌, ◌&&◌, nat_lt, Some, None, List, [], ◌∷◌, length, map, get_or, drop, refl, sym, ap, ◌∙◌, arith}
use Rattle.std.proofs.lemmas.Bool.{le-ltb}
use Rattle.std.proofs.lemmas.List.{drop_all}
use Rattle.std.proofs.Math.Seq.{drop-cons}
use Rattle.tree_nodes.specs.Trees.{Tree, pack, unpack}
use Rattle.tree_nodes.specs.Back.{no_tree}
use Rattle.tree_nodes.specs.Rows.{Row, tree_of}
use Rattle.py_grammar.specs.Tests.{kind_of}
use Rattle.py_grammar.specs.Patterns.{is_star_pattern, is_rest, is_keyword_pattern, count_stars, has_one_star, rest_is_last, keywords_are_last, keywords_behind_patterns}
use Rattle.parse_pattern.specs.declared.order.Order.{Order}
use Rattle.parse_pattern.specs.declared.order.Order.TheVariants as orders
use Rattle.parse_pattern.specs.Orders.{seen_behind, in_order_from}

-- ---- the three conditions

two_stars : (ts : List Tree) → nat_lt (1 + count_stars ts) 2 ≡ in_order_from orders.OneStar (Some true) ts
two_stars [] = refl
two_stars (t ∷ ts) = go (is_star_pattern (kind_of t)) (two_stars ts)
  where
    go : (c : Bool) → nat_lt (1 + count_stars ts) 2 ≡ in_order_from orders.OneStar (Some true) ts → nat_lt (1 + (if c then 1 + count_stars ts else count_stars ts)) 2 ≡ in_order_from orders.OneStar (if c then None else Some true) ts
    go true h = le-ltb (1 + (1 + count_stars ts)) 2 (omega arith)
    go false h = h

pub one_star_is : (ts : List Tree) → has_one_star ts ≡ in_order_from orders.OneStar (Some false) ts
one_star_is [] = refl
one_star_is (t ∷ ts) = go (is_star_pattern (kind_of t)) (one_star_is ts)
  where
    go : (c : Bool) → has_one_star ts ≡ in_order_from orders.OneStar (Some false) ts → nat_lt (if c then 1 + count_stars ts else count_stars ts) 2 ≡ in_order_from orders.OneStar (if c then Some true else Some false) ts
    go true h = two_stars ts
    go false h = h

pub rest_last_is : (ts : List Tree) → rest_is_last ts ≡ in_order_from orders.RestLast (Some false) ts
rest_last_is [] = refl
rest_last_is (t ∷ []) = refl
rest_last_is (t ∷ u ∷ ts) = go (is_rest (kind_of t)) (rest_last_is (u ∷ ts))
  where
    go : (c : Bool) → rest_is_last (u ∷ ts) ≡ in_order_from orders.RestLast (Some false) (u ∷ ts) → ((if c then false else true) && rest_is_last (u ∷ ts)) ≡ in_order_from orders.RestLast (Some c) (u ∷ ts)
    go true h = refl
    go false h = h

keywords_last_from : (seen : Bool) (ts : List Tree) → keywords_are_last seen ts ≡ in_order_from orders.KeywordsLast (Some seen) ts
keywords_last_from seen [] = refl
keywords_last_from seen (t ∷ ts) = go (is_keyword_pattern (kind_of t)) seen (keywords_last_from true ts) (keywords_last_from false ts)
  where
    go : (c s : Bool) → keywords_are_last true ts ≡ in_order_from orders.KeywordsLast (Some true) ts → keywords_are_last false ts ≡ in_order_from orders.KeywordsLast (Some false) ts → (if c then keywords_are_last true ts else (if s then false else keywords_are_last false ts)) ≡ in_order_from orders.KeywordsLast (if c then Some true else (if s then None else Some false)) ts
    go true s h h' = h
    go false true h h' = refl
    go false false h h' = h'

pub keywords_last_is : (ts : List Tree) → keywords_behind_patterns ts ≡ in_order_from orders.KeywordsLast (Some false) ts
keywords_last_is ts = keywords_last_from false ts

-- ---- one tree further

pub drop_next : {X : Type 0} (n : ℕ) (xs : List X) (d : X) → n < length xs → drop n xs ≡ get_or xs n d ∷ drop (n + 1) xs
drop_next n [] d l = absurd (omega arith)
drop_next zero (x ∷ xs) d l = refl
drop_next (suc n) (x ∷ xs) d l = let e : suc n + 1 ≡ suc (n + 1) = omega arith in rw e (drop_next n xs d (omega arith))

pub order_next : (order : Order) (seen : Bool) (n : ℕ) (ts : List Tree) → n < length ts
    → in_order_from order (Some seen) (drop n ts) ≡ in_order_from order (seen_behind order seen (kind_of (get_or ts n no_tree))) (drop (n + 1) ts)
order_next order seen n ts l = let e = drop_next n ts no_tree l in rw e refl

pub drop_first : (n : ℕ) (ts : List Tree) → n < length ts → drop n ts ≡ get_or ts n no_tree ∷ drop (n + 1) ts
drop_first n ts l = drop_next n ts no_tree l

pub drop_end : (n : ℕ) (ts : List Tree) → length ts ≤ n → drop n ts ≡ []
drop_end n ts l = drop_all n ts l

pub order_end : (order : Order) (seen : Bool) (n : ℕ) (ts : List Tree) → length ts ≤ n → in_order_from order (Some seen) (drop n ts) ≡ true
order_end order seen n ts l = let e = drop_all n ts l in rw e refl

-- ---- kids

pub unpack_pack : (ts : List Tree) → unpack (pack ts) ≡ ts
unpack_pack [] = refl
unpack_pack (t ∷ ts) = ap (λ (us : List Tree). t ∷ us) (unpack_pack ts)

pub row_next : (order : Order) (seen : Bool) (rows : List Row) (ids : List ℕ) (i id : ℕ) → i < length ids → id ≡ get_or ids i id
    → in_order_from order (Some seen) (map (tree_of rows) (drop i ids)) ≡ in_order_from order (seen_behind order seen (tree_of rows id).node.kind) (map (tree_of rows) (drop (i + 1) ids))
row_next order seen rows ids i id l e =
    let n : suc i ≡ i + 1 = omega arith in
    let here : drop i ids ≡ id ∷ drop (i + 1) ids = drop-cons ids i id l ∙ ap (λ (k : ℕ). k ∷ drop (suc i) ids) (sym e) ∙ ap (λ (m : ℕ). id ∷ drop m ids) n in
    ap (λ (xs : List ℕ). in_order_from order (Some seen) (map (tree_of rows) xs)) here

pub row_end : (order : Order) (seen : Bool) (rows : List Row) (ids : List ℕ) (i : ℕ) → length ids ≤ i → in_order_from order (Some seen) (map (tree_of rows) (drop i ids)) ≡ true
row_end order seen rows ids i l = let e = drop_all i ids l in rw e refl
