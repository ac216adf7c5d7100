-- Tests of a list of trees from a mark on, one tree after the other.
use Rattle.std.proofs.Common.{◌≡◌, ℕ, zero, suc, ◌+◌, ◌-◌, ◌<◌, ◌≤◌, Bool, true, false, if◌then◌else◌, ◌&&◌, ◌||◌, Option, Some, None, List, [], ◌∷◌, length, get_or, drop, refl, sym, ap, ◌∙◌, arith, map}
use Rattle.std.specs.Prelude.{All}
use Rattle.std.proofs.lemmas.List.{drop_all, get_or-map, length-map}
use Rattle.tree_nodes.specs.Trees.{Tree}
use Rattle.tree_nodes.specs.Rows.{Row}
use Rattle.tree_nodes.specs.Back.{no_tree}
use Rattle.tree_nodes.specs.declared.kind.Kind.{Kind}
use Rattle.py_grammar.specs.Tests.{kind_of, next_place, in_order_from}
use Rattle.py_grammar.specs.Expressions.{is_clause, is_comprehension, is_of_dict, are_all, are_alike, is_plain, is_plain_first}
use Rattle.py_forest.specs.declared.top.Top.{Top}
use Rattle.py_forest.specs.Tops.{IsTop}
use Rattle.py_forest.specs.Forests.{tree_at}

pub top_kind : (rows : List Row) (tops : List Top) (place : ℕ) (top : Top) → All (IsTop rows) tops → place < length tops → top ≡ get_or tops place top → top.kind ≡ (get_or (map (tree_at rows) tops) place no_tree).node.kind
top_kind rows tops place top made l e =
    ap (λ (t : Top). t.kind) e ∙ (made place top l).kind ∙ ap (λ (t : Tree). t.node.kind) (sym (get_or-map (tree_at rows) tops place top no_tree l))

-- a tree, and those behind it
pub drop_next : (xs : List Tree) (place : ℕ) → place < length xs → drop place xs ≡ get_or xs place no_tree ∷ drop (place + 1) xs
drop_next [] n l = absurd (omega arith)
drop_next (x ∷ xs) zero l = refl
drop_next (x ∷ xs) (suc n) l = let e : suc n + 1 ≡ suc (n + 1) = omega arith in rw e (drop_next xs n (omega arith))

pub comprehension_is : (xs : List Tree) (mark : ℕ) → mark + 1 < length xs → is_comprehension (drop mark xs) ≡ is_clause (get_or xs (mark + 1) no_tree).node.kind
comprehension_is xs mark l = let e1 = drop_next xs mark (omega arith) in let e2 = drop_next xs (mark + 1) l in rw (e1, e2) refl

pub comprehension_short : (xs : List Tree) (mark : ℕ) → length xs ≤ mark + 1 → is_comprehension (drop mark xs) ≡ false
comprehension_short [] zero l = refl
comprehension_short [] (suc n) l = refl
comprehension_short (x ∷ []) zero l = refl
comprehension_short (x ∷ y ∷ xs) zero l = absurd (omega arith)
comprehension_short (x ∷ xs) (suc n) l = comprehension_short xs n (omega arith)

pub alike_none : (xs : List Tree) (mark : ℕ) → length xs ≤ mark → are_alike (drop mark xs) ≡ true
alike_none xs mark l = let e = drop_all mark xs l in rw e refl

pub alike_some : (xs : List Tree) (mark : ℕ) → mark < length xs → are_alike (drop mark xs) ≡ are_all (is_of_dict (get_or xs mark no_tree).node.kind) (drop (mark + 1) xs)
alike_some xs mark l = let e = drop_next xs mark l in rw e refl

pub all_next : (of_dict : Bool) (xs : List Tree) (place : ℕ) → place < length xs
    → are_all of_dict (drop place xs) ≡ ((is_clause (get_or xs place no_tree).node.kind || (if of_dict then is_of_dict (get_or xs place no_tree).node.kind else (if is_of_dict (get_or xs place no_tree).node.kind then false else true))) && are_all of_dict (drop (place + 1) xs))
all_next of_dict xs place l = let e = drop_next xs place l in rw e refl

pub all_end : (of_dict : Bool) (xs : List Tree) (place : ℕ) → length xs ≤ place → are_all of_dict (drop place xs) ≡ true
all_end of_dict xs place l = let e = drop_all place xs l in rw e refl

pub order_next : (order : ℕ) (xs : List Tree) (place : ℕ) → place < length xs → in_order_from (Some order) (drop place xs) ≡ in_order_from (next_place order (get_or xs place no_tree).node.kind) (drop (place + 1) xs)
order_next order xs place l = let e = drop_next xs place l in rw e refl

pub order_end : (order : ℕ) (xs : List Tree) (place : ℕ) → length xs ≤ place → in_order_from (Some order) (drop place xs) ≡ true
order_end order xs place l = let e = drop_all place xs l in rw e refl

pub plain_first : (xs : List Tree) (mark : ℕ) → mark < length xs → is_plain_first (drop mark xs) ≡ is_plain (get_or xs mark no_tree).node.kind
plain_first xs mark l = let e = drop_next xs mark l in rw e refl
