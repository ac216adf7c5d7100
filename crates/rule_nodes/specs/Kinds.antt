-- What a node is, by its kind, as more than one rule asks for it.
use Rattle.std.specs.Prelude.{Bool, true, false, not, ◌&&◌, ◌||◌}
use Rattle.tree_nodes.specs.declared.kind.Kind.{Kind}
use Rattle.tree_nodes.specs.declared.kind.Kind.TheVariants as kinds
use Rattle.scope_rules.specs.Kinds.{is_def, is_class, is_in_body}

-- a string that says what a module, class or function does
unfoldable pub is_docstring : Kind → Bool
is_docstring kinds.Docstring = true
is_docstring kind = false

-- a statement, simple or compound: what stands in a block, but for a docstring
unfoldable pub is_statement : Kind → Bool
is_statement kind = is_in_body kind && not (is_docstring kind)

-- a clause that counts as a statement: `elif` and `except`
unfoldable pub is_counted_clause : Kind → Bool
is_counted_clause kinds.Elif = true
is_counted_clause kinds.ExceptHandler = true
is_counted_clause kinds.ExceptStarHandler = true
is_counted_clause kind = false

-- what the number of statements counts
abbrev pub is_counted : Kind → Bool
is_counted kind = is_statement kind || is_counted_clause kind

-- a function or class: what stands in it belongs to it
abbrev pub is_owner : Kind → Bool
is_owner kind = is_def kind || is_class kind

unfoldable pub is_decorator : Kind → Bool
is_decorator kinds.Decorator = true
is_decorator kind = false

-- what stands before a class, or between its brackets with a keyword
unfoldable pub is_no_base : Kind → Bool
is_no_base kinds.Decorator = true
is_no_base kinds.KeywordArgument = true
is_no_base kinds.DoubleStarArgument = true
is_no_base kind = false

-- what a class stands over: a plain or starred argument
abbrev pub is_base : Kind → Bool
is_base kind = not (is_no_base kind || is_in_body kind)

-- an expression alone on its line
unfoldable pub is_expression_statement : Kind → Bool
is_expression_statement kinds.ExpressionStatement = true
is_expression_statement kind = false

-- `...`
unfoldable pub is_ellipsis : Kind → Bool
is_ellipsis kinds.EllipsisLiteral = true
is_ellipsis kind = false

-- `from .. import ..`
unfoldable pub is_import_from : Kind → Bool
is_import_from kinds.ImportFrom = true
is_import_from kind = false

-- the root of a file's tree
unfoldable pub is_module : Kind → Bool
is_module kinds.Module = true
is_module kind = false
