-- What lies around a node: the function or class that it belongs to.
use Rattle.std.specs.Prelude.{ℕ, zero, suc, List, [], ◌∷◌, Option, Some, None, find}
use Rattle.tree_nodes.specs.Trees.{Tree, parent_at}
use Rattle.scope_rules.specs.Nodes.{kind_of}
use Rattle.rule_nodes.specs.Kinds.{is_owner}

-- a parent, and what is above it
abbrev pub onto_above : (ℕ → List ℕ) → Option ℕ → List ℕ
onto_above above_it None = []
onto_above above_it (Some p) = p ∷ above_it p

-- so many of the nodes above a node at most, the nearest first
abbrev pub above_within : ℕ → Tree → ℕ → List ℕ
above_within zero t n = []
above_within (suc most) t n = onto_above (above_within most t) (parent_at t n)

-- the nodes above a node, the nearest first: each has a lower number than the one below it
unfoldable pub above : Tree → ℕ → List ℕ
above t n = above_within n t n

-- the nearest function or class above a node
unfoldable pub owner_of : Tree → ℕ → Option ℕ
owner_of t n = find (λ p. is_owner (kind_of t p)) (above t n)
