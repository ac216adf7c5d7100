-- The kids of parameters.
use Rattle.std.specs.Prelude.{Bool, true, false}
use Rattle.tree_nodes.specs.declared.kind.Kind.{Kind}
use Rattle.tree_nodes.specs.declared.kind.Kind.TheVariants as kinds

-- the annotation of a parameter
abbrev pub is_annotation : Kind → Bool
is_annotation kinds.Annotation = true
is_annotation kind = false
