-- The kinds of nodes by sorts: what may stand in the same places of a tree; and which kinds have a name.
use Rattle.std.specs.Prelude.{◌≡◌, Bool, true, false, List, [], ◌∷◌, ◌⊎◌}
use Rattle.tree_nodes.specs.declared.kind.Kind.{Kind}
use Rattle.tree_nodes.specs.declared.kind.Kind.TheVariants as kinds

-- the sorts
pub data Sort : Type 0 where
  module_root : Sort
  statement : Sort
  elif_clause : Sort
  else_clause : Sort
  handler : Sort
  star_handler : Sort
  finally_clause : Sort
  case_clause : Sort
  decorator : Sort
  docstring : Sort
  with_item : Sort
  annotation : Sort
  star_annotation : Sort
  alias : Sort
  import_wildcard : Sort
  as_name : Sort
  declared_name : Sort
  parameter : Sort
  positional_only_mark : Sort
  keyword_only_mark : Sort
  star_parameter : Sort
  keyword_only_parameter : Sort
  double_star_parameter : Sort
  single_target : Sort
  group_target : Sort
  starred_target : Sort
  constant : Sort
  name_read : Sort
  attribute_read : Sort
  minus : Sort
  sum_row : Sort
  other_expression : Sort
  starred : Sort
  star_argument : Sort
  keyword_argument : Sort
  double_star_argument : Sort
  slice : Sort
  slice_colon : Sort
  slices : Sort
  dict_item : Sort
  dict_unpack : Sort
  comprehension_clause : Sort
  field : Sort
  comparison_operator : Sort
  shift_operator : Sort
  sum_operator : Sort
  product_operator : Sort
  other_operator : Sort
  pattern : Sort
  star_pattern : Sort
  match_item : Sort
  match_rest : Sort
  match_keyword : Sort

-- the sort of a kind
unfoldable pub sort_of : Kind → Sort
sort_of kinds.Module = module_root
sort_of kinds.ExpressionStatement = statement
sort_of kinds.Assign = statement
sort_of kinds.AugAssign = statement
sort_of kinds.AnnAssign = statement
sort_of kinds.Pass = statement
sort_of kinds.Break = statement
sort_of kinds.Continue = statement
sort_of kinds.Return = statement
sort_of kinds.Raise = statement
sort_of kinds.Global = statement
sort_of kinds.Nonlocal = statement
sort_of kinds.Delete = statement
sort_of kinds.Assert = statement
sort_of kinds.Import = statement
sort_of kinds.ImportFrom = statement
sort_of kinds.If = statement
sort_of kinds.While = statement
sort_of kinds.For = statement
sort_of kinds.AsyncFor = statement
sort_of kinds.Try = statement
sort_of kinds.With = statement
sort_of kinds.AsyncWith = statement
sort_of kinds.FunctionDef = statement
sort_of kinds.AsyncFunctionDef = statement
sort_of kinds.ClassDef = statement
sort_of kinds.Match = statement
sort_of kinds.Elif = elif_clause
sort_of kinds.Else = else_clause
sort_of kinds.ExceptHandler = handler
sort_of kinds.ExceptStarHandler = star_handler
sort_of kinds.Finally = finally_clause
sort_of kinds.Case = case_clause
sort_of kinds.Decorator = decorator
sort_of kinds.Docstring = docstring
sort_of kinds.WithItem = with_item
sort_of kinds.Annotation = annotation
sort_of kinds.StarAnnotation = star_annotation
sort_of kinds.Alias = alias
sort_of kinds.ImportWildcard = import_wildcard
sort_of kinds.AsName = as_name
sort_of kinds.DeclaredName = declared_name
sort_of kinds.Parameter = parameter
sort_of kinds.PositionalOnlyMark = positional_only_mark
sort_of kinds.StarParameter = star_parameter
sort_of kinds.KeywordOnlyMark = keyword_only_mark
sort_of kinds.KeywordOnlyParameter = keyword_only_parameter
sort_of kinds.DoubleStarParameter = double_star_parameter
sort_of kinds.NameTarget = single_target
sort_of kinds.AttributeTarget = single_target
sort_of kinds.SubscriptTarget = single_target
sort_of kinds.TupleTarget = group_target
sort_of kinds.ListTarget = group_target
sort_of kinds.StarredTarget = starred_target
sort_of kinds.NumberLiteral = constant
sort_of kinds.StringLiteral = constant
sort_of kinds.BytesLiteral = constant
sort_of kinds.NoneLiteral = constant
sort_of kinds.TrueLiteral = constant
sort_of kinds.FalseLiteral = constant
sort_of kinds.Name = name_read
sort_of kinds.Attribute = attribute_read
sort_of kinds.UnaryMinus = minus
sort_of kinds.Sum = sum_row
sort_of kinds.Starred = starred
sort_of kinds.StarArgument = star_argument
sort_of kinds.KeywordArgument = keyword_argument
sort_of kinds.DoubleStarArgument = double_star_argument
sort_of kinds.Slice = slice
sort_of kinds.SliceColon = slice_colon
sort_of kinds.Slices = slices
sort_of kinds.DictItem = dict_item
sort_of kinds.DictUnpack = dict_unpack
sort_of kinds.ComprehensionFor = comprehension_clause
sort_of kinds.AsyncComprehensionFor = comprehension_clause
sort_of kinds.Field = field
sort_of kinds.Less = comparison_operator
sort_of kinds.Greater = comparison_operator
sort_of kinds.Equal = comparison_operator
sort_of kinds.LessEqual = comparison_operator
sort_of kinds.GreaterEqual = comparison_operator
sort_of kinds.NotEqual = comparison_operator
sort_of kinds.In = comparison_operator
sort_of kinds.NotIn = comparison_operator
sort_of kinds.Is = comparison_operator
sort_of kinds.IsNot = comparison_operator
sort_of kinds.LeftShift = shift_operator
sort_of kinds.RightShift = shift_operator
sort_of kinds.Add = sum_operator
sort_of kinds.Subtract = sum_operator
sort_of kinds.Multiply = product_operator
sort_of kinds.Divide = product_operator
sort_of kinds.FloorDivide = product_operator
sort_of kinds.Modulo = product_operator
sort_of kinds.MatrixMultiply = product_operator
sort_of kinds.BitAnd = other_operator
sort_of kinds.BitXor = other_operator
sort_of kinds.BitOr = other_operator
sort_of kinds.Exponentiate = other_operator
sort_of kinds.MatchOr = pattern
sort_of kinds.MatchAs = pattern
sort_of kinds.MatchValue = pattern
sort_of kinds.MatchCapture = pattern
sort_of kinds.MatchWildcard = pattern
sort_of kinds.MatchSequence = pattern
sort_of kinds.MatchMapping = pattern
sort_of kinds.MatchClass = pattern
sort_of kinds.MatchStar = star_pattern
sort_of kinds.MatchStarWildcard = star_pattern
sort_of kinds.MatchItem = match_item
sort_of kinds.MatchRest = match_rest
sort_of kinds.MatchKeyword = match_keyword
sort_of kind = other_expression

-- the kinds that have a name
unfoldable pub is_named : Kind → Bool
is_named kinds.ImportFrom = true
is_named kinds.FunctionDef = true
is_named kinds.AsyncFunctionDef = true
is_named kinds.ClassDef = true
is_named kinds.Docstring = true
is_named kinds.Alias = true
is_named kinds.AsName = true
is_named kinds.DeclaredName = true
is_named kinds.Parameter = true
is_named kinds.StarParameter = true
is_named kinds.KeywordOnlyParameter = true
is_named kinds.DoubleStarParameter = true
is_named kinds.NameTarget = true
is_named kinds.AttributeTarget = true
is_named kinds.NamedExpression = true
is_named kinds.Attribute = true
is_named kinds.Name = true
is_named kinds.NumberLiteral = true
is_named kinds.StringLiteral = true
is_named kinds.BytesLiteral = true
is_named kinds.FString = true
is_named kinds.KeywordArgument = true
is_named kinds.MatchAs = true
is_named kinds.MatchCapture = true
is_named kinds.MatchStar = true
is_named kinds.MatchRest = true
is_named kinds.MatchKeyword = true
is_named kind = false

-- ---- sorts that stand in one place

-- a kind is of one of these sorts
abbrev pub IsOf : List Sort → Kind → Type 0
IsOf [] kind = ⊥
IsOf (sort ∷ sorts) kind = (sort_of kind ≡ sort) ⊎ IsOf sorts kind

-- each of these kinds is
abbrev pub AreOf : List Sort → List Kind → Type 0
AreOf sorts [] = Unit {0}
AreOf sorts (kind ∷ kinds) = IsOf sorts kind × AreOf sorts kinds

-- a sort alone
abbrev pub only : Sort → List Sort
only sort = sort ∷ []

-- an expression of any kind
abbrev pub expression : List Sort
expression = constant ∷ name_read ∷ attribute_read ∷ minus ∷ sum_row ∷ other_expression ∷ []

-- an expression, or one behind a star
abbrev pub value : List Sort
value = starred ∷ expression

-- what may be one target or several without a star
abbrev pub target : List Sort
target = single_target ∷ group_target ∷ []

-- a target of any kind
abbrev pub any_target : List Sort
any_target = starred_target ∷ target

-- what a pattern compares with
abbrev pub compared : List Sort
compared = constant ∷ attribute_read ∷ minus ∷ sum_row ∷ []

-- an operator of an augmented assignment
abbrev pub augmented_operator : List Sort
augmented_operator = sum_operator ∷ product_operator ∷ shift_operator ∷ other_operator ∷ []
