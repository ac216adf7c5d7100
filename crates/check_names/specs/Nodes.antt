-- Public names, and names among others.
use Rattle.std.specs.Prelude.{ℕ, Bool, if◌then◌else◌, List, Option, None, Some}
use Rattle.std.specs.List.{list_any}
use Rattle.std.specs.Str.{bytes_eq}
use Rattle.tree_nodes.specs.Trees.{Tree}
use Rattle.scope_rules.specs.Nodes.{Name}
use Rattle.scope_rules.specs.Binding.{makes_local}
use Rattle.rule_nodes.specs.Nodes.{is_public}

-- the name is one of these
abbrev pub is_among : List Name → Name → Bool
is_among names x = list_any (bytes_eq x) names

-- the name, where there is one that is public
abbrev pub public_of : Option Name → Option Name
public_of None = None
public_of (Some x) = if is_public x then Some x else None

-- the public name that a node makes local
abbrev pub public_name : Tree → ℕ → Option Name
public_name t n = public_of (makes_local t n)
