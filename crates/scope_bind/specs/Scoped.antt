-- What the scopes of a tree keep.
use Rattle.std.specs.Prelude.{◌≡◌, ℕ, ◌<◌, Bool, List, length}
use Rattle.tree_nodes.specs.Trees.{Tree}
use Rattle.scope_rules.specs.Kinds.{opens}
use Rattle.scope_rules.specs.Nodes.{Name, kind_of}
use Rattle.scope_rules.specs.Places.{around}
use Rattle.scope_rules.specs.Mangling.{spelled}
use Rattle.scope_rules.specs.Declaring.{binder_mark}
use Rattle.scope_rules.specs.Reading.{answer_of}
use Rattle.scope_rules.specs.Answers.{load_mark, store_mark, delete_mark}
use Rattle.scope_bind.specs.declared.scopes.Scopes.{Scopes}
use Rattle.scope_bind.specs.Lists.{IsListOf}
use Rattle.scope_bind.specs.Rows.{IsTableOf}
use Rattle.scope_bind.specs.Owned.{AreNameRows}

-- these are the scopes of the tree
pub record AreScopesOf (t : Tree) (s : Scopes) : Type 0 where
  pub places : IsListOf (around t) t s.places.items
  pub openers : IsListOf (λ n. opens (kind_of t n)) t s.openers.items
  pub names : IsListOf (spelled t) t s.names.items
  pub answers : IsListOf (answer_of t) t s.answers.items
  pub binders : IsTableOf (binder_mark t) t s.binders
  pub loads : IsTableOf (load_mark t) t s.loads
  pub stores : IsTableOf (store_mark t) t s.stores
  pub deletes : IsTableOf (delete_mark t) t s.deletes
  pub local_names : AreNameRows t s.local_names

-- a number of a node of the tree whose scopes these are
pub record IsNode (s : Scopes) (n : ℕ) : Type 0 where
  pub has_place : n < length s.places.items
  pub has_opener : n < length s.openers.items
  pub has_name : n < length s.names.items
  pub has_answer : n < length s.answers.items
