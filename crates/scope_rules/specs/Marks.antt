-- Marks: what a node says of a name in a scope, and which nodes say so.
use Rattle.std.specs.Prelude.{ℕ, Bool, false, ◌&&◌, ◌==◌, List, filter, Option, Some, None}
use Rattle.std.specs.List.{list_any}
use Rattle.std.specs.Str.{bytes_eq}
use Rattle.tree_nodes.specs.Trees.{Tree}
use Rattle.scope_rules.specs.Nodes.{Name, nodes_of}

-- a name in a scope
pub record Mark : Type 0 where
  pub scope : ℕ
  pub name : Name

-- the mark is of that name in that scope
abbrev pub is_mark : ℕ → Name → Option Mark → Bool
is_mark s x None = false
is_mark s x (Some m) = m.scope == s && bytes_eq m.name x

-- a mark of the name, if there is one, in that scope
abbrev pub mark_in : ℕ → Option Name → Option Mark
mark_in s None = None
mark_in s (Some x) = Some (record { scope = s; name = x })

-- a mark of that name in the scope, if there is one
abbrev pub mark_at : Option ℕ → Name → Option Mark
mark_at None x = None
mark_at (Some s) x = Some (record { scope = s; name = x })

-- some node says this of the name in the scope
unfoldable pub some_node : (ℕ → Option Mark) → Tree → ℕ → Name → Bool
some_node mark t s x = list_any (λ n. is_mark s x (mark n)) (nodes_of t)

-- the nodes that do, in source order
unfoldable pub nodes_with : (ℕ → Option Mark) → Tree → ℕ → Name → List ℕ
nodes_with mark t s x = filter (λ n. is_mark s x (mark n)) (nodes_of t)
