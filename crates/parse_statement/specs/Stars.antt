-- Stars among targets.
use Rattle.std.specs.Prelude.{Bool, true, false}
use Rattle.tree_nodes.specs.declared.kind.Kind.{Kind}
use Rattle.tree_nodes.specs.declared.kind.Kind.TheVariants as kinds

-- a star
abbrev pub is_starred : Kind → Bool
is_starred kinds.Starred = true
is_starred kind = false
