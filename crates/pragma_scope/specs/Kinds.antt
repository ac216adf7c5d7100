-- What a node is, by its kind: what stands in a block.
use Rattle.std.specs.Prelude.{Bool, true, false, ◌||◌}
use Rattle.tree_nodes.specs.declared.kind.Kind.{Kind}
use Rattle.tree_nodes.specs.declared.kind.Kind.TheVariants as kinds
use Rattle.rule_nodes.specs.Kinds.{is_statement, is_docstring}

-- a clause of `match`
unfoldable pub is_case : Kind → Bool
is_case kinds.Case = true
is_case kind = false

-- what counts as a statement of the block that it stands in: in that of `match` its clauses do
abbrev pub is_of_block : Kind → Bool
is_of_block kind = is_statement kind || is_case kind

-- what stands in a block: statements, and a docstring
abbrev pub is_in_block : Kind → Bool
is_in_block kind = is_of_block kind || is_docstring kind
