-- What follows of the scopes of a tree.
use Rattle.std.proofs.Common.{◌≡◌, ℕ, ◌<◌, arith, length}
use Rattle.tree_nodes.specs.Trees.{Tree, count_of}
use Rattle.scope_rules.specs.Kinds.{opens}
use Rattle.scope_rules.specs.Nodes.{kind_of}
use Rattle.scope_rules.specs.Places.{around}
use Rattle.scope_rules.specs.Mangling.{spelled}
use Rattle.scope_rules.specs.Reading.{answer_of}
use Rattle.scope_bind.specs.declared.scopes.Scopes.{Scopes}
use Rattle.scope_bind.specs.Scoped.{AreScopesOf, IsNode}
use Rattle.scope_bind.proofs.ListLaws.{list_length}

-- each node of the tree has its entry in each list
pub nodes_known : (t : Tree) (s : Scopes) → AreScopesOf t s → (n : ℕ) → n < count_of t → IsNode s n
nodes_known t s h n made = record {
  has_place = omega (arith, list_length (around t) (count_of t) s.places.items h.places);
  has_opener = omega (arith, list_length (λ n. opens (kind_of t n)) (count_of t) s.openers.items h.openers);
  has_name = omega (arith, list_length (spelled t) (count_of t) s.names.items h.names);
  has_answer = omega (arith, list_length (answer_of t) (count_of t) s.answers.items h.answers);
}
