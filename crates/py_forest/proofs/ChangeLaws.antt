-- The trees of a forest, as one of them becomes another.
use Rattle.std.proofs.Common.{◌≡◌, ℕ, zero, suc, ◌+◌, ◌-◌, ◌<◌, ◌≤◌, ◌≢◌, Bool, true, false, List, [], ◌∷◌, ◌++◌, length, map, get_or, set, take, drop, refl, sym, ap, subst, ◌∙◌, arith}
use Rattle.std.specs.Prelude.{All}
use Rattle.std.proofs.lemmas.List.{map-set, drop_all, length-map, get_or-map, take-append-drop}
use Rattle.std.proofs.lemmas.List.Elements.{All-set}
use Rattle.tree_nodes.specs.Trees.{Tree}
use Rattle.tree_nodes.specs.Back.{no_tree}
use Rattle.tree_nodes.specs.Rows.{Row, tree_of}
use Rattle.tree_nodes.specs.declared.kind.Kind.{Kind}
use Rattle.py_grammar.specs.Terminals.{Terminal}
use Rattle.py_grammar.specs.Tests.{is_target, as_target}
use Rattle.py_grammar.specs.Expressions.{is_one_target, bound}
use Rattle.py_forest.specs.declared.top.Top.{Top}
use Rattle.py_forest.specs.Tops.{IsTop}
use Rattle.py_forest.specs.Forests.{tree_at}
use Rattle.py_forest.proofs.TreeLaws.{Stay, trees_stay, tops_stay}
use Rattle.py_forest.proofs.KindLaws.{drop_next}

pub one_target : (xs : List Tree) (mark : ℕ) → length xs ≡ mark + 1 → is_one_target (drop mark xs) ≡ is_target (get_or xs mark no_tree)
one_target xs mark l = let e1 = drop_next xs mark (omega arith) in let e2 = drop_all (mark + 1) xs (omega arith) in rw (e1, e2) refl

pub no_one_target : (xs : List Tree) (mark : ℕ) → length xs - mark ≢ 1 → is_one_target (drop mark xs) ≡ false
no_one_target [] zero l = refl
no_one_target [] (suc n) l = refl
no_one_target (x ∷ []) zero l = absurd (omega arith)
no_one_target (x ∷ y ∷ xs) zero l = refl
no_one_target (x ∷ xs) (suc n) l = no_one_target xs n (omega arith)

pub bound_first_is : (ts : List Terminal) (xs : List Tree) (mark : ℕ) → mark < length xs → take mark xs ++ bound ts (drop mark xs) ≡ set xs mark (as_target (get_or xs mark no_tree))
bound_first_is ts [] mark l = absurd (omega arith)
bound_first_is ts (x ∷ xs) zero l = refl
bound_first_is ts (x ∷ xs) (suc n) l = ap (λ (ys : List Tree). x ∷ ys) (bound_first_is ts xs n (omega arith))

pub bound_none : (ts : List Terminal) (xs : List Tree) (mark : ℕ) → length xs ≤ mark → take mark xs ++ bound ts (drop mark xs) ≡ xs
bound_none ts [] zero l = refl
bound_none ts [] (suc n) l = refl
bound_none ts (x ∷ xs) zero l = absurd (omega arith)
bound_none ts (x ∷ xs) (suc n) l = ap (λ (ys : List Tree). x ∷ ys) (bound_none ts xs n (omega arith))

-- a tree in the place of another
pub set_tops : (rows rows' : List Row) (tops tops' : List Top) (place n : ℕ) (kind : Kind) → Stay rows rows' → length rows ≤ length rows' → All (IsTop rows) tops → tops' ≡ set tops place (record { row = n; kind = kind }) → n < length rows' → kind ≡ (tree_of rows' n).node.kind → All (IsTop rows') tops'
set_tops rows rows' tops tops' place n kind stay long made e low ek =
    rw e (All-set (IsTop rows') tops place (record { row = n; kind = kind }) (record { made = low; kind = ek }) (tops_stay rows rows' tops stay long made))

pub set_trees : (rows rows' : List Row) (tops tops' : List Top) (place n : ℕ) (kind : Kind) (t : Tree) → Stay rows rows' → All (IsTop rows) tops → tops' ≡ set tops place (record { row = n; kind = kind }) → tree_of rows' n ≡ t
    → map (tree_at rows') tops' ≡ set (map (tree_at rows) tops) place t
set_trees rows rows' tops tops' place n kind t stay made e et =
    rw e (map-set (tree_at rows') tops place (record { row = n; kind = kind }) ∙ ap (λ (ts : List Tree). set ts place (tree_of rows' n)) (trees_stay rows rows' tops stay made) ∙ ap (λ (u : Tree). set (map (tree_at rows) tops) place u) et)

-- the tree at a place is that of its row
pub tree_at_place : (rows : List Row) (tops : List Top) (place : ℕ) (top : Top) → place < length tops → top ≡ get_or tops place top → tree_of rows top.row ≡ get_or (map (tree_at rows) tops) place no_tree
tree_at_place rows tops place top l e = ap (tree_at rows) e ∙ sym (get_or-map (tree_at rows) tops place top no_tree l)

pub row_made : (rows : List Row) (tops : List Top) (place : ℕ) (top : Top) → All (IsTop rows) tops → place < length tops → top ≡ get_or tops place top → top.row < length rows
row_made rows tops place top made l e = subst (λ (t : Top). t.row < length rows) (sym e) (made place top l).made
