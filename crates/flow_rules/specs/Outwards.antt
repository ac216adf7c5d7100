-- What lies around a node: whether it belongs to a function or to a class, and whether it stands in a loop.
use Rattle.std.specs.Prelude.{ℕ, Bool, false, not, ◌&&◌, ◌||◌, List, [], ◌∷◌, Option, Some, None}
use Rattle.tree_nodes.specs.Trees.{Tree}
use Rattle.scope_rules.specs.Kinds.{is_def, is_class}
use Rattle.scope_rules.specs.Nodes.{kind_of}
use Rattle.rule_nodes.specs.Kinds.{is_owner}
use Rattle.rule_nodes.specs.Outwards.{above}
use Rattle.flow_rules.specs.Kinds.{is_loop, is_else}

-- it is there, and is a function
abbrev pub is_function_there : Tree → Option ℕ → Bool
is_function_there t None = false
is_function_there t (Some p) = is_def (kind_of t p)

-- it is there, and is a class
abbrev pub is_class_there : Tree → Option ℕ → Bool
is_class_there t None = false
is_class_there t (Some p) = is_class (kind_of t p)

-- the node p is a loop, and its part n is repeated: all but its `else` is
abbrev pub is_repeated : Tree → ℕ → ℕ → Bool
is_repeated t p n = is_loop (kind_of t p) && not (is_else (kind_of t n))

-- on the way from a node outwards a loop that repeats it comes before any function or class
abbrev pub meets_loop : Tree → ℕ → List ℕ → Bool
meets_loop t n [] = false
meets_loop t n (p ∷ ps) = is_repeated t p n || (not (is_owner (kind_of t p)) && meets_loop t p ps)

-- the node stands in a loop
unfoldable pub in_loop : Tree → ℕ → Bool
in_loop t n = meets_loop t n (above t n)
