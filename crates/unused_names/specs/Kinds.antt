-- What a node is, by its kind, as the rules on unused names ask.
use Rattle.std.specs.Prelude.{Bool, true, false}
use Rattle.tree_nodes.specs.declared.kind.Kind.{Kind}
use Rattle.tree_nodes.specs.declared.kind.Kind.TheVariants as kinds

-- a statement that changes a name by an operator: `x += 1`
unfoldable pub is_augmented_assignment : Kind → Bool
is_augmented_assignment kinds.AugAssign = true
is_augmented_assignment kind = false

-- a statement that gives a name a value
unfoldable pub is_assignment : Kind → Bool
is_assignment kinds.Assign = true
is_assignment kinds.AugAssign = true
is_assignment kinds.AnnAssign = true
is_assignment kind = false

-- a name that an assignment, a loop or a `del` binds
unfoldable pub is_name_target : Kind → Bool
is_name_target kinds.NameTarget = true
is_name_target kind = false

-- an expression behind `:` or `->`
unfoldable pub is_annotation : Kind → Bool
is_annotation kinds.Annotation = true
is_annotation kinds.StarAnnotation = true
is_annotation kind = false

-- a string that is no byte string and no f-string
unfoldable pub is_string : Kind → Bool
is_string kinds.StringLiteral = true
is_string kind = false

-- elements in brackets
unfoldable pub is_display : Kind → Bool
is_display kinds.List = true
is_display kinds.Tuple = true
is_display kinds.Set = true
is_display kind = false

unfoldable pub is_call : Kind → Bool
is_call kinds.Call = true
is_call kind = false

-- a statement that does nothing with a parameter
unfoldable pub is_empty_statement : Kind → Bool
is_empty_statement kinds.Docstring = true
is_empty_statement kinds.Pass = true
is_empty_statement kinds.Raise = true
is_empty_statement kind = false
