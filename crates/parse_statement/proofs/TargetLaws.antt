-- Trees from a mark on that a statement binds, one after the other.
use Rattle.std.proofs.Common.{◌≡◌, ℕ, zero, suc, ◌+◌, ◌-◌, ◌<◌, ◌≤◌, true, false, ◌&&◌, List, [], ◌∷◌, ◌++◌, length, get_or, set, take, drop, refl, ap, ◌∙◌, arith}
use Rattle.std.proofs.lemmas.List.{drop_all, take_all, append-nil}
use Rattle.tree_nodes.specs.Trees.{Tree, pack}
use Rattle.tree_nodes.specs.Back.{no_tree}
use Rattle.py_grammar.specs.Terminals.{Terminal}
use Rattle.py_grammar.specs.Tests.{is_target, as_target, is_single, are_unstarred}
use Rattle.py_grammar.specs.Expressions.{bound}
use Rattle.py_grammar.specs.Statements.{targets_before_last, bound_before_last, is_single_first, bound_first, are_deletable, all_bound}

drop_next : (xs : List Tree) (place : ℕ) → place < length xs → drop place xs ≡ get_or xs place no_tree ∷ drop (place + 1) xs
drop_next [] n l = absurd (omega arith)
drop_next (x ∷ xs) zero l = refl
drop_next (x ∷ xs) (suc n) l = let e : suc n + 1 ≡ suc (n + 1) = omega arith in rw e (drop_next xs n (omega arith))

pub single_first : (xs : List Tree) (mark : ℕ) → mark < length xs → is_single_first (drop mark xs) ≡ is_single (get_or xs mark no_tree).node.kind
single_first xs mark l = let e = drop_next xs mark l in rw e refl

pub single_none : (xs : List Tree) (mark : ℕ) → length xs ≤ mark → is_single_first (drop mark xs) ≡ false
single_none xs mark l = let e = drop_all mark xs l in rw e refl

pub bound_first_is : (ts : List Terminal) (xs : List Tree) → bound ts xs ≡ bound_first xs
bound_first_is ts [] = refl
bound_first_is ts (x ∷ xs) = refl

-- ---- all but the last

pub targets_next : (xs : List Tree) (place : ℕ) → place + 1 < length xs → targets_before_last (drop place xs) ≡ (is_target (get_or xs place no_tree) && targets_before_last (drop (place + 1) xs))
targets_next xs place l = let e1 = drop_next xs place (omega arith) in let e2 = drop_next xs (place + 1) l in rw (e1, e2) refl

pub targets_end : (xs : List Tree) (place : ℕ) → length xs - 1 ≤ place → targets_before_last (drop place xs) ≡ true
targets_end [] zero l = refl
targets_end [] (suc n) l = refl
targets_end (x ∷ []) zero l = refl
targets_end (x ∷ []) (suc n) l = targets_end [] n (omega arith)
targets_end (x ∷ y ∷ xs) zero l = absurd (omega arith)
targets_end (x ∷ y ∷ xs) (suc n) l = targets_end (y ∷ xs) n (omega arith)

pub before_last_turn : (xs ys all : List Tree) (place : ℕ) → all ≡ take place xs ++ bound_before_last (drop place xs) → place + 1 < length xs → ys ≡ set xs place (as_target (get_or xs place no_tree))
    → all ≡ take (place + 1) ys ++ bound_before_last (drop (place + 1) ys)
before_last_turn xs ys all place e l ey = e ∙ rw ey (go xs place l)
  where
    go : (xs : List Tree) (place : ℕ) → place + 1 < length xs → take place xs ++ bound_before_last (drop place xs)
        ≡ take (place + 1) (set xs place (as_target (get_or xs place no_tree))) ++ bound_before_last (drop (place + 1) (set xs place (as_target (get_or xs place no_tree))))
    go [] place l = absurd (omega arith)
    go (x ∷ []) place l = absurd (omega arith)
    go (x ∷ y ∷ xs) zero l = refl
    go (x ∷ y ∷ xs) (suc n) l = let e : suc n + 1 ≡ suc (n + 1) = omega arith in rw e (ap (λ (ts : List Tree). x ∷ ts) (go (y ∷ xs) n (omega arith)))

pub before_last_end : (xs all : List Tree) (place : ℕ) → all ≡ take place xs ++ bound_before_last (drop place xs) → length xs - 1 ≤ place → all ≡ xs
before_last_end xs all place e l = e ∙ go xs place l
  where
    go : (xs : List Tree) (place : ℕ) → length xs - 1 ≤ place → take place xs ++ bound_before_last (drop place xs) ≡ xs
    go [] zero l = refl
    go [] (suc n) l = refl
    go (x ∷ []) zero l = refl
    go (x ∷ []) (suc n) l = ap (λ (ts : List Tree). x ∷ ts) (go [] n (omega arith))
    go (x ∷ y ∷ xs) zero l = absurd (omega arith)
    go (x ∷ y ∷ xs) (suc n) l = ap (λ (ts : List Tree). x ∷ ts) (go (y ∷ xs) n (omega arith))

-- ---- each of them

pub deletable_next : (xs : List Tree) (place : ℕ) → place < length xs
    → are_deletable (drop place xs) ≡ (is_target (get_or xs place no_tree) && are_unstarred (pack (get_or xs place no_tree ∷ [])) && are_deletable (drop (place + 1) xs))
deletable_next xs place l = let e = drop_next xs place l in rw e refl

pub deletable_end : (xs : List Tree) (place : ℕ) → length xs ≤ place → are_deletable (drop place xs) ≡ true
deletable_end xs place l = let e = drop_all place xs l in rw e refl

pub all_turn : (xs ys all : List Tree) (place : ℕ) → all ≡ take place xs ++ all_bound (drop place xs) → place < length xs → ys ≡ set xs place (as_target (get_or xs place no_tree))
    → all ≡ take (place + 1) ys ++ all_bound (drop (place + 1) ys)
all_turn xs ys all place e l ey = e ∙ rw ey (go xs place l)
  where
    go : (xs : List Tree) (place : ℕ) → place < length xs → take place xs ++ all_bound (drop place xs)
        ≡ take (place + 1) (set xs place (as_target (get_or xs place no_tree))) ++ all_bound (drop (place + 1) (set xs place (as_target (get_or xs place no_tree))))
    go [] place l = absurd (omega arith)
    go (x ∷ xs) zero l = refl
    go (x ∷ xs) (suc n) l = let e : suc n + 1 ≡ suc (n + 1) = omega arith in rw e (ap (λ (ts : List Tree). x ∷ ts) (go xs n (omega arith)))

pub all_end : (xs all : List Tree) (place : ℕ) → all ≡ take place xs ++ all_bound (drop place xs) → length xs ≤ place → all ≡ xs
all_end xs all place e l =
    let e1 = take_all place xs l in
    let e2 = drop_all place xs l in
    e ∙ rw (e1, e2) (append-nil xs)
