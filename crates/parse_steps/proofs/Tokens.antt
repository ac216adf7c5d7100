-- Tokens at places of a line.
use Rattle.std.proofs.Common.{◌≡◌, ℕ, zero, suc, ◌+◌, ◌≤◌, true, false, List, [], ◌∷◌, length, get_or, drop, refl, ap, ◌∙◌, arith}
use Rattle.std.proofs.lemmas.List.{drop_all}
use Rattle.tree_nodes.specs.Trees.{Node, none}
use Rattle.py_language.specs.Sets.{at}
use Rattle.py_language.specs.Readers.{got, fails, shown, skipped}
use Rattle.py_grammar.specs.Terminals.{Terminal, code, no_terminal}

pub drop_one : {X : Type 0} → (n : ℕ) (xs : List X) → drop (n + 1) xs ≡ drop 1 (drop n xs)
drop_one zero xs = refl
drop_one {X} (suc n) [] = let e : suc n + 1 ≡ suc (n + 1) = omega arith in ap (λ m. drop {A = X} m []) e
drop_one {X} (suc n) (y ∷ ys) = let e : suc n + 1 ≡ suc (n + 1) = omega arith in ap (λ m. drop m (y ∷ ys)) e ∙ drop_one n ys

pub drop_end : {X : Type 0} → (n : ℕ) (xs : List X) → length xs ≤ n → drop n xs ≡ []
drop_end n xs h = drop_all n xs h

pub skipped_at : (set : List ℕ) (ts : List Terminal) → at code set ts ≡ true → skipped code set ts ≡ got [] (drop 1 ts)
skipped_at set [] e = absurd cc
skipped_at set (t ∷ ts) e = rw e refl

pub skipped_not : (set : List ℕ) (ts : List Terminal) → at code set ts ≡ false → skipped code set ts ≡ fails
skipped_not set [] e = refl
skipped_not set (t ∷ ts) e = rw e refl

pub shown_not : (node_of : Terminal → Node) (set : List ℕ) (ts : List Terminal) → at code set ts ≡ false → shown code node_of set ts ≡ fails
shown_not node_of set [] e = refl
shown_not node_of set (t ∷ ts) e = rw e refl

-- the token of a leaf stands at the place
pub shown_at : (node_of : Terminal → Node) (set : List ℕ) (place : ℕ) (line : List Terminal) → at code set (drop place line) ≡ true
    → shown code node_of set (drop place line) ≡ got (record { node = node_of (get_or line place no_terminal); kids = none } ∷ []) (drop 1 (drop place line))
shown_at node_of set zero [] e = absurd cc
shown_at node_of set zero (t ∷ ts) e = rw e refl
shown_at node_of set (suc n) [] e = absurd cc
shown_at node_of set (suc n) (t ∷ ts) e = shown_at node_of set n ts e
