-- The kinds of nodes that open a scope, and which kinds of their parts stand in it.
use Rattle.std.specs.Prelude.{Bool, true, false, not, if◌then◌else◌}
use Rattle.tree_nodes.specs.declared.kind.Kind.{Kind}
use Rattle.tree_nodes.specs.declared.kind.Kind.TheVariants as kinds

-- a class statement
unfoldable pub is_class : Kind → Bool
is_class kinds.ClassDef = true
is_class kind = false

-- a function that has a name
unfoldable pub is_def : Kind → Bool
is_def kinds.FunctionDef = true
is_def kinds.AsyncFunctionDef = true
is_def kind = false

-- a comprehension or generator expression
unfoldable pub is_comprehension : Kind → Bool
is_comprehension kinds.ListComprehension = true
is_comprehension kinds.SetComprehension = true
is_comprehension kinds.DictComprehension = true
is_comprehension kinds.GeneratorExpression = true
is_comprehension kind = false

-- scopes are the module, functions, lambdas, classes and comprehensions
unfoldable pub opens : Kind → Bool
opens kinds.Module = true
opens kinds.FunctionDef = true
opens kinds.AsyncFunctionDef = true
opens kinds.Lambda = true
opens kinds.ClassDef = true
opens kinds.ListComprehension = true
opens kinds.SetComprehension = true
opens kinds.DictComprehension = true
opens kinds.GeneratorExpression = true
opens kind = false

-- a parameter that has a name
unfoldable pub is_parameter : Kind → Bool
is_parameter kinds.Parameter = true
is_parameter kinds.StarParameter = true
is_parameter kinds.KeywordOnlyParameter = true
is_parameter kinds.DoubleStarParameter = true
is_parameter kind = false

-- a function's decorators and the annotation of its result stand outside of it
unfoldable pub is_around_def : Kind → Bool
is_around_def kinds.Decorator = true
is_around_def kinds.Annotation = true
is_around_def kind = false

-- a class's body: its docstring and statements
unfoldable pub is_in_body : Kind → Bool
is_in_body kinds.Docstring = true
is_in_body kinds.ExpressionStatement = true
is_in_body kinds.Assign = true
is_in_body kinds.AugAssign = true
is_in_body kinds.AnnAssign = true
is_in_body kinds.Pass = true
is_in_body kinds.Break = true
is_in_body kinds.Continue = true
is_in_body kinds.Return = true
is_in_body kinds.Raise = true
is_in_body kinds.Global = true
is_in_body kinds.Nonlocal = true
is_in_body kinds.Delete = true
is_in_body kinds.Assert = true
is_in_body kinds.Import = true
is_in_body kinds.ImportFrom = true
is_in_body kinds.If = true
is_in_body kinds.While = true
is_in_body kinds.For = true
is_in_body kinds.AsyncFor = true
is_in_body kinds.Try = true
is_in_body kinds.With = true
is_in_body kinds.AsyncWith = true
is_in_body kinds.FunctionDef = true
is_in_body kinds.AsyncFunctionDef = true
is_in_body kinds.ClassDef = true
is_in_body kinds.Match = true
is_in_body kind = false

-- a part of this kind stands in the scope of a node of that kind
unfoldable pub holds : Kind → Kind → Bool
holds whole part = if is_def whole then not (is_around_def part) else (if is_class whole then is_in_body part else opens whole)
