-- What is asked of scopes: their nodes, and the way outwards from a scope.
use Rattle.std.proofs.Common.{◌≡◌, ℕ, ◌<◌, Bool, true, false, ◌||◌, List, map, refl, sym, subst, arith, Option}
use Rattle.std.specs.Prelude.{All}
use Rattle.std.specs.List.{list_any}
use Rattle.std.proofs.lemmas.List.{get_or-map, get_or_default, length-map}
use Rattle.std.proofs.lemmas.List.Elements.{All-filter}
use Rattle.lint_values.specs.declared.place.NodeId.{NodeId}
use Rattle.tree_nodes.specs.Trees.{Tree, count_of}
use Rattle.tree_nodes.specs.Kept.{number_of}
use Rattle.scope_rules.specs.Kinds.{opens}
use Rattle.scope_rules.specs.Nodes.{Name, kind_of, below, nodes_of}
use Rattle.scope_rules.specs.Places.{around, chain}
use Rattle.scope_rules.specs.Mangling.{spelled}
use Rattle.scope_rules.specs.Marks.{Mark, is_mark, nodes_with}
use Rattle.scope_rules.specs.Reading.{answer_of}
use Rattle.scope_rules.proofs.Answering.{length-below, get-below}
use Rattle.scope_rules.proofs.Nesting.{chain-outwards, chain-module}
use Rattle.scope_bind.specs.declared.scopes.Scopes.{Scopes}
use Rattle.scope_bind.specs.Scoped.{AreScopesOf, IsNode}
use Rattle.scope_bind.proofs.ListLaws.{list_length}

-- each node of the tree is known to its scopes
pub is_node : (t : Tree) (s : Scopes) (n : ℕ) → AreScopesOf t s → n < count_of t → IsNode s n
is_node t s n h made = record {
  has_place = omega (arith, list_length (around t) (count_of t) s.places.items h.places);
  has_opener = omega (arith, list_length (λ m. opens (kind_of t m)) (count_of t) s.openers.items h.openers);
  has_name = omega (arith, list_length (spelled t) (count_of t) s.names.items h.names);
  has_answer = omega (arith, list_length (answer_of t) (count_of t) s.answers.items h.answers);
}

below-low : (n : ℕ) → All (λ k. k < n) (below n)
below-low n = λ k d low.
    let l = length-below n in
    let same = get_or_default (below n) k d 0 low in
    let at = get-below n k (omega arith) in
    omega (arith, same, at)

-- the nodes of a name are nodes of the tree
pub nodes_made : (mark : ℕ → Option Mark) (t : Tree) (s : ℕ) (x : Name) (bs : List NodeId) → map number_of bs ≡ nodes_with mark t s x → All (λ b. b.0 < count_of t) bs
unfolding nodes_with
nodes_made mark t s x bs e = λ k d low.
    let all = All-filter (λ n. is_mark s x (mark n)) (λ n. n < count_of t) (nodes_of t) (below-low (count_of t)) in
    let moved = subst (λ (ns : List ℕ). All (λ n. n < count_of t) ns) (sym e) all in
    let there = moved k d.0 (omega (arith, low, length-map bs number_of)) in
    let same = get_or-map number_of bs k d d.0 low in
    omega (arith, there, same)

-- ---- the way outwards

-- a scope that does not pass is left
pub any_outwards : (p : ℕ → Bool) (t : Tree) (s : ℕ) → s < count_of t → 0 < s → p s ≡ false → list_any p (chain t (around t s)) ≡ list_any p (chain t s)
any_outwards p t s made some e = rw (chain-outwards t s made some, e) refl

or-false : (b : Bool) → (b || false) ≡ b
or-false true = refl
or-false false = refl

-- a scope that passes ends the way
pub any_here : (p : ℕ → Bool) (t : Tree) (s : ℕ) → s < count_of t → 0 < s → p s ≡ true → true ≡ list_any p (chain t s)
any_here p t s made some e = rw (chain-outwards t s made some, e) refl

-- at the module the way ends
pub any_module : (p : ℕ → Bool) (t : Tree) (s : ℕ) → s ≡ 0 → p s ≡ list_any p (chain t s)
any_module p t s e = rw e (rw (chain-module t 0 refl) (sym (or-false (p 0))))
