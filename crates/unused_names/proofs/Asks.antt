-- What the scopes of a tree answer of its nodes.
use Rattle.std.proofs.Common.{◌≡◌, ℕ, ◌<◌, List, map, sym, subst, arith}
use Rattle.std.specs.Prelude.{All}
use Rattle.lint_values.specs.declared.place.NodeId.{NodeId}
use Rattle.tree_nodes.specs.Trees.{Tree, count_of}
use Rattle.tree_nodes.specs.Kept.{number_of}
use Rattle.scope_rules.specs.Kinds.{opens}
use Rattle.scope_rules.specs.Nodes.{Name, kind_of}
use Rattle.scope_rules.specs.Places.{around}
use Rattle.scope_rules.specs.Mangling.{spelled}
use Rattle.scope_rules.specs.Marks.{nodes_with}
use Rattle.scope_rules.specs.Reading.{answer_of}
use Rattle.scope_rules.specs.Answers.{binders_of, loads_of}
use Rattle.scope_bind.specs.declared.scopes.Scopes.{Scopes}
use Rattle.scope_bind.specs.Scoped.{AreScopesOf, IsNode}
use Rattle.scope_bind.proofs.ListLaws.{list_length}
use Rattle.unused_names.proofs.Lists.{numbers_low, kept_low}

-- a node of the tree may be asked for
pub is_node : (t : Tree) (s : Scopes) (n : ℕ) → AreScopesOf t s → n < count_of t → IsNode s n
is_node t s n h made = record {
  has_place = let e = list_length (around t) (count_of t) s.places.items h.places in omega (arith, e, made);
  has_opener = let e = list_length (λ m. opens (kind_of t m)) (count_of t) s.openers.items h.openers in omega (arith, e, made);
  has_name = let e = list_length (spelled t) (count_of t) s.names.items h.names in omega (arith, e, made);
  has_answer = let e = list_length (answer_of t) (count_of t) s.answers.items h.answers in omega (arith, e, made);
}

-- the binders of a name are nodes of the tree
pub binders_made : (t : Tree) (s : ℕ) (x : Name) (ns : List NodeId) → map number_of ns ≡ binders_of t s x → All (λ k. k.0 < count_of t) ns
unfolding nodes_with
binders_made t s x ns e = numbers_low (count_of t) ns (subst (All (λ k. k < count_of t)) (sym e) (kept_low _ (count_of t)))

-- so are the reads that lead to it
pub loads_made : (t : Tree) (s : ℕ) (x : Name) (ns : List NodeId) → map number_of ns ≡ loads_of t s x → All (λ k. k.0 < count_of t) ns
unfolding nodes_with
loads_made t s x ns e = numbers_low (count_of t) ns (subst (All (λ k. k < count_of t)) (sym e) (kept_low _ (count_of t)))
