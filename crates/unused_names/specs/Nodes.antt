-- What the rules ask of the nodes of a tree, by their numbers.
use Rattle.std.specs.Prelude.{ℕ, zero, suc, Bool, false, ◌||◌, Option, None, Some}
use Rattle.std.specs.Str.{bytes_eq}
use Rattle.tree_nodes.specs.Trees.{Tree, parent_at}
use Rattle.scope_rules.specs.Nodes.{Name}

-- there is a name, and it is that one
abbrev pub is_name : Option Name → Name → Bool
is_name None x = false
is_name (Some y) x = bytes_eq y x

-- what is asked of the node above, if there is one
abbrev pub asked_above : (ℕ → Bool) → Option ℕ → Bool
asked_above test None = false
asked_above test (Some q) = test q

-- a node passes, or one of at most so many above it
unfoldable pub is_under_by : ℕ → (ℕ → Bool) → Tree → ℕ → Bool
is_under_by zero test t n = false
is_under_by (suc most) test t n = test n || asked_above (is_under_by most test t) (parent_at t n)

-- a node passes, or one above it: each has a lower number than the one below it
unfoldable pub is_under : (ℕ → Bool) → Tree → ℕ → Bool
is_under test t n = is_under_by (suc n) test t n
