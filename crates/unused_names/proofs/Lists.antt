-- Lists of nodes: one node more, and what is asked of the nodes in a list.
use Rattle.std.proofs.Common.{◌≡◌, ℕ, suc, ◌+◌, ◌<◌, Bool, List, [], ◌∷◌, ◌++◌, map, get_or, sym, ap, subst, ◌∙◌, append_assoc, arith}
use Rattle.std.specs.Prelude.{All, filter}
use Rattle.std.specs.List.{flat_map}
use Rattle.std.proofs.lemmas.Grind.{flat_map-append}
use Rattle.std.proofs.lemmas.List.{append-nil, get_or_default, get_or-map, length-map}
use Rattle.std.proofs.lemmas.List.Elements.{All-filter}
use Rattle.lint_values.specs.declared.place.NodeId.{NodeId}
use Rattle.tree_nodes.specs.Kept.{number_of}
use Rattle.scope_rules.specs.Nodes.{below}
use Rattle.scope_rules.proofs.Answering.{length-below, get-below}
use Rattle.scope_bind.proofs.ListLaws.{below_more}

-- what one node more adds
pub flat_more : {X : Type 0} (f : ℕ → List X) (n : ℕ) → flat_map f (below (n + 1)) ≡ flat_map f (below n) ++ f n
flat_more f n = ap (flat_map f) (below_more n) ∙ flat_map-append f (below n) (n ∷ []) ∙ ap (λ ys. flat_map f (below n) ++ ys) (append-nil (f n))

-- what was found of the nodes before one joins what is found of it
pub found_more : {X : Type 0} (f : ℕ → List X) (n : ℕ) (start old new : List X) → old ≡ start ++ flat_map f (below n) → new ≡ old ++ f n → new ≡ start ++ flat_map f (below (n + 1))
found_more f n start old new so_far e =
    e ∙ ap (λ xs. xs ++ f n) so_far ∙ append_assoc start (flat_map f (below n)) (f n) ∙ ap (λ xs. start ++ xs) (sym (flat_more f n))

-- what is found of the first of some nodes joins what was found
pub flat_on : {X : Type 0} (f : ℕ → List X) (rest tail : List NodeId) (kid : NodeId) (old new whole : List X) → rest ≡ kid ∷ tail → new ≡ old ++ f kid.0 → old ++ flat_map f (map number_of rest) ≡ whole → new ++ flat_map f (map number_of tail) ≡ whole
flat_on f rest tail kid old new whole is e told =
    let first = rw is at told in
    ap (λ xs. xs ++ flat_map f (map number_of tail)) e ∙ append_assoc old (f kid.0) (flat_map f (map number_of tail)) ∙ first

-- what holds of all holds of those behind the first
pub made_on : (c : ℕ) (rest tail : List NodeId) (kid : NodeId) → rest ≡ kid ∷ tail → All (λ k. k.0 < c) rest → All (λ k. k.0 < c) tail
made_on c rest tail kid is made = λ k d lt. let all = rw is at made in all (suc k) d (omega arith)

-- the numbers below n are below it, also those that pass a test
get-low : (n k d : ℕ) → k < n → get_or (below n) k d ≡ k
get-low n k d lt = let l = length-below n in get_or_default (below n) k d 0 (omega (arith, l, lt)) ∙ get-below n k lt

below_low : (n : ℕ) → All (λ k. k < n) (below n)
below_low n = λ k d lt. let l = length-below n in let low : k < n = omega (arith, l, lt) in subst (λ (m : ℕ). m < n) (sym (get-low n k d low)) low

pub kept_low : (p : ℕ → Bool) (n : ℕ) → All (λ k. k < n) (filter p (below n))
kept_low p n = All-filter p (λ k. k < n) (below n) (below_low n)

-- nodes whose numbers are below n
pub numbers_low : (n : ℕ) (ns : List NodeId) → All (λ k. k < n) (map number_of ns) → All (λ k. k.0 < n) ns
numbers_low n ns low = λ k d lt. subst (λ (m : ℕ). m < n) (get_or-map number_of ns k d d.0 lt) (low k d.0 (omega (arith, length-map ns number_of, lt)))
