-- The kinds of nodes that the rules on names ask for.
use Rattle.std.specs.Prelude.{Bool, true, false, ◌||◌}
use Rattle.tree_nodes.specs.declared.kind.Kind.{Kind}
use Rattle.tree_nodes.specs.declared.kind.Kind.TheVariants as kinds
use Rattle.scope_rules.specs.Kinds.{is_def}
use Rattle.rule_nodes.specs.Kinds.{is_module}

-- the `*` of an import
unfoldable pub is_wildcard : Kind → Bool
is_wildcard kinds.ImportWildcard = true
is_wildcard kind = false

unfoldable pub is_try : Kind → Bool
is_try kinds.Try = true
is_try kind = false

-- a part of a `try` behind its body
unfoldable pub is_clause : Kind → Bool
is_clause kinds.ExceptHandler = true
is_clause kinds.ExceptStarHandler = true
is_clause kinds.Else = true
is_clause kinds.Finally = true
is_clause kind = false

unfoldable pub is_tuple : Kind → Bool
is_tuple kinds.Tuple = true
is_tuple kind = false

-- the scopes in which a binder hides a builtin for good: the module and functions that have a name
abbrev pub is_module_or_def : Kind → Bool
is_module_or_def kind = is_module kind || is_def kind
