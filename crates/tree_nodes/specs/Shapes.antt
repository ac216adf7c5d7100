-- The grammar of syntax trees: which kids each kind of node has, and in which order.
use Rattle.std.specs.Prelude.{◌≡◌, List, [], ◌∷◌, ◌++◌, ◌⊎◌}
use Rattle.tree_nodes.specs.declared.kind.Kind.{Kind}
use Rattle.tree_nodes.specs.declared.kind.Kind.TheVariants as kinds
use Rattle.tree_nodes.specs.Sorts.{Sort, statement, elif_clause, else_clause, handler, star_handler, finally_clause, case_clause, decorator, docstring, with_item, annotation, star_annotation, alias, import_wildcard, as_name, declared_name, parameter, positional_only_mark, keyword_only_mark, star_parameter, keyword_only_parameter, double_star_parameter, single_target, name_read, attribute_read, star_argument, keyword_argument, double_star_argument, slice, slice_colon, slices, dict_item, dict_unpack, comprehension_clause, field, comparison_operator, shift_operator, sum_operator, product_operator, pattern, star_pattern, match_item, match_rest, match_keyword, IsOf, AreOf, only, expression, value, target, any_target, compared, augmented_operator}

-- ---- parts of a list of kids

-- one kid of some sorts, maybe one, any number of them, or any number of pairs of them
pub data Part : Type 0 where
  a_single : List Sort → Part
  a_possible : List Sort → Part
  a_row : List Sort → Part
  a_row_of_pairs : List Sort → List Sort → Part

-- one behind another, in pairs
abbrev pub ArePairs : List Sort → List Sort → List Kind → Type 0
ArePairs firsts seconds [] = Unit {0}
ArePairs firsts seconds (first ∷ []) = ⊥
ArePairs firsts seconds (first ∷ second ∷ kinds) = IsOf firsts first × IsOf seconds second × ArePairs firsts seconds kinds

-- the kinds of all kids are those of the parts, in their order
abbrev pub Fits : List Part → List Kind → Type 0
Fits [] kids = kids ≡ []
Fits (a_single sorts ∷ parts) [] = ⊥
Fits (a_single sorts ∷ parts) (kid ∷ kids) = IsOf sorts kid × Fits parts kids
Fits (a_possible sorts ∷ parts) [] = Fits parts []
Fits (a_possible sorts ∷ parts) (kid ∷ kids) = Fits parts (kid ∷ kids) ⊎ (IsOf sorts kid × Fits parts kids)
Fits (a_row sorts ∷ parts) kids = (front : List Kind) × (back : List Kind) × (kids ≡ front ++ back) × AreOf sorts front × Fits parts back
Fits (a_row_of_pairs firsts seconds ∷ parts) kids = (front : List Kind) × (back : List Kind) × (kids ≡ front ++ back) × ArePairs firsts seconds front × Fits parts back

-- they are those of one of some forms
abbrev pub FitsOneOf : List (List Part) → List Kind → Type 0
FitsOneOf [] kids = ⊥
FitsOneOf (form ∷ forms) kids = Fits form kids ⊎ FitsOneOf forms kids

-- one
abbrev pub one : List Sort → List Part
one sorts = a_single sorts ∷ []

-- none or one
abbrev pub maybe : List Sort → List Part
maybe sorts = a_possible sorts ∷ []

-- any number, or none
abbrev pub many : List Sort → List Part
many sorts = a_row sorts ∷ []

-- one or more
abbrev pub some : List Sort → List Part
some sorts = one sorts ++ many sorts

-- operands, at least two, and between each two an operator
abbrev pub operands_between : List Sort → List Part
operands_between operators = one expression ++ one operators ++ one expression ++ (a_row_of_pairs operators expression ∷ [])

-- ---- lists that several kinds have

-- no plain argument behind a keyword or **, and no * behind **
abbrev pub arguments : List Part
arguments = many (star_argument ∷ expression) ++ many (keyword_argument ∷ star_argument ∷ []) ++ many (keyword_argument ∷ double_star_argument ∷ [])

-- the parameters behind the mark
abbrev pub later_parameters : List Part
later_parameters = many (only parameter) ++ maybe (star_parameter ∷ keyword_only_mark ∷ []) ++ many (only keyword_only_parameter) ++ maybe (only double_star_parameter)

-- what stands in the brackets behind a subscript's expression
abbrev pub subscripts : List Sort
subscripts = slice ∷ slices ∷ value

-- one of these before the same
abbrev pub before_each : List Part → List (List Part) → List (List Part)
before_each parts [] = []
before_each parts (form ∷ forms) = (parts ++ form) ∷ before_each parts forms

-- the forms of parameters before a rest: with the mark behind at least one, and without
abbrev pub behind_parameters : List Part → List (List Part)
behind_parameters rest = (some (only parameter) ++ one (only positional_only_mark) ++ later_parameters ++ rest) ∷ (later_parameters ++ rest) ∷ []

-- a body that begins with a docstring, and one that does not
abbrev pub documented : List Part
documented = one (only docstring) ++ many (only statement)

-- the statements of a block
abbrev pub block : List Part
block = some (only statement)

-- decorators, parameters, the result's annotation, the body
abbrev pub function_forms : List (List Part)
function_forms =
    before_each (many (only decorator)) (behind_parameters (maybe (only annotation) ++ documented) ++ behind_parameters (maybe (only annotation) ++ block))

-- decorators, arguments, the body
abbrev pub class_forms : List (List Part)
class_forms = before_each (many (only decorator) ++ arguments) (documented ∷ block ∷ [])

-- one form alone
abbrev pub sole : List Part → List (List Part)
sole form = form ∷ []

-- no kids
abbrev pub leaf : List (List Part)
leaf = sole []

-- ---- the forms of each kind

-- each kind's forms; a kind without a line here has no kids
unfoldable pub shape : Kind → List (List Part)
shape kinds.Module = sole (maybe (only docstring) ++ many (only statement))
shape kinds.ExpressionStatement = sole (one value)
shape kinds.Assign = sole (some any_target ++ one value)
shape kinds.AugAssign = sole (one (only single_target) ++ one augmented_operator ++ one value)
shape kinds.AnnAssign = sole (one (only single_target) ++ one (only annotation) ++ maybe value)
shape kinds.Return = sole (maybe value)
shape kinds.Raise = [] ∷ (one expression ++ maybe expression) ∷ []
shape kinds.Global = sole (some (only declared_name))
shape kinds.Nonlocal = sole (some (only declared_name))
shape kinds.Delete = sole (some target)
shape kinds.Assert = sole (one expression ++ maybe expression)
shape kinds.Import = sole (some (only alias))
shape kinds.ImportFrom = some (only alias) ∷ one (only import_wildcard) ∷ []
shape kinds.If = sole (one expression ++ block ++ many (only elif_clause) ++ maybe (only else_clause))
shape kinds.While = sole (one expression ++ block ++ maybe (only else_clause))
shape kinds.For = sole (one any_target ++ one value ++ block ++ maybe (only else_clause))
shape kinds.AsyncFor = sole (one any_target ++ one value ++ block ++ maybe (only else_clause))
shape kinds.Try = before_each block ((some (only handler) ++ maybe (only else_clause) ++ maybe (only finally_clause)) ∷ (some (only star_handler) ++ maybe (only else_clause) ++ maybe (only finally_clause)) ∷ one (only finally_clause) ∷ [])
shape kinds.With = sole (some (only with_item) ++ block)
shape kinds.AsyncWith = sole (some (only with_item) ++ block)
shape kinds.FunctionDef = function_forms
shape kinds.AsyncFunctionDef = function_forms
shape kinds.ClassDef = class_forms
shape kinds.Match = sole (one expression ++ some (only case_clause))
shape kinds.Elif = sole (one expression ++ block)
shape kinds.Else = sole block
shape kinds.ExceptHandler = block ∷ (one expression ++ maybe (only as_name) ++ block) ∷ []
shape kinds.ExceptStarHandler = sole (one expression ++ maybe (only as_name) ++ block)
shape kinds.Finally = sole block
shape kinds.Case = sole (one (only pattern) ++ maybe expression ++ block)
shape kinds.Decorator = sole (one expression)
shape kinds.WithItem = sole (one expression ++ maybe any_target)
shape kinds.Annotation = sole (one expression)
shape kinds.StarAnnotation = sole (one expression)
shape kinds.Alias = sole (maybe (only as_name))
shape kinds.Parameter = sole (maybe (only annotation) ++ maybe expression)
shape kinds.StarParameter = sole (maybe (annotation ∷ star_annotation ∷ []))
shape kinds.KeywordOnlyParameter = sole (maybe (only annotation) ++ maybe expression)
shape kinds.DoubleStarParameter = sole (maybe (only annotation))
shape kinds.AttributeTarget = sole (one expression)
shape kinds.SubscriptTarget = sole (one expression ++ one subscripts)
shape kinds.TupleTarget = sole (many any_target)
shape kinds.ListTarget = sole (many any_target)
shape kinds.StarredTarget = sole (one target)
shape kinds.NamedExpression = sole (one expression)
shape kinds.Conditional = sole (one expression ++ one expression ++ one expression)
shape kinds.Lambda = behind_parameters (one expression)
shape kinds.BoolOr = sole (one expression ++ some expression)
shape kinds.BoolAnd = sole (one expression ++ some expression)
shape kinds.Not = sole (one expression)
shape kinds.Comparison = sole (operands_between (only comparison_operator))
shape kinds.BitwiseOr = sole (one expression ++ some expression)
shape kinds.BitwiseXor = sole (one expression ++ some expression)
shape kinds.BitwiseAnd = sole (one expression ++ some expression)
shape kinds.Shift = sole (operands_between (only shift_operator))
shape kinds.Sum = sole (operands_between (only sum_operator))
shape kinds.Product = sole (operands_between (only product_operator))
shape kinds.UnaryPlus = sole (one expression)
shape kinds.UnaryMinus = sole (one expression)
shape kinds.UnaryInvert = sole (one expression)
shape kinds.Power = sole (one expression ++ one expression)
shape kinds.Await = sole (one expression)
shape kinds.Attribute = sole (one expression)
shape kinds.Call = sole (one expression ++ arguments)
shape kinds.Subscript = sole (one expression ++ one subscripts)
shape kinds.FString = sole (many (only field))
shape kinds.Tuple = sole (many value)
shape kinds.List = sole (many value)
shape kinds.Set = sole (some value)
shape kinds.Dict = sole (many (dict_item ∷ dict_unpack ∷ []))
shape kinds.ListComprehension = sole (one expression ++ some (only comprehension_clause))
shape kinds.SetComprehension = sole (one expression ++ some (only comprehension_clause))
shape kinds.DictComprehension = sole (one (only dict_item) ++ some (only comprehension_clause))
shape kinds.GeneratorExpression = sole (one expression ++ some (only comprehension_clause))
shape kinds.Yield = sole (maybe value)
shape kinds.YieldFrom = sole (one expression)
shape kinds.Starred = sole (one expression)
shape kinds.StarArgument = sole (one expression)
shape kinds.KeywordArgument = sole (one expression)
shape kinds.DoubleStarArgument = sole (one expression)
shape kinds.Slice =
    (maybe expression ++ one (only slice_colon) ++ maybe expression) ∷ (maybe expression ++ one (only slice_colon) ++ maybe expression ++ one (only slice_colon) ++ maybe expression) ∷ []
shape kinds.Slices = sole (some (slice ∷ value))
shape kinds.DictItem = sole (one expression ++ one expression)
shape kinds.DictUnpack = sole (one expression)
shape kinds.ComprehensionFor = sole (one any_target ++ one expression ++ many expression)
shape kinds.AsyncComprehensionFor = sole (one any_target ++ one expression ++ many expression)
shape kinds.Field = sole (one value ++ many (only field))
shape kinds.MatchOr = sole (one (only pattern) ++ some (only pattern))
shape kinds.MatchAs = sole (one (only pattern))
shape kinds.MatchValue = sole (one compared)
shape kinds.MatchSequence = sole (many (only pattern) ++ maybe (only star_pattern) ++ many (only pattern))
shape kinds.MatchMapping = sole (many (only match_item) ++ maybe (only match_rest))
shape kinds.MatchItem = sole (one compared ++ one (only pattern))
shape kinds.MatchClass = sole (one (name_read ∷ attribute_read ∷ []) ++ many (only pattern) ++ many (only match_keyword))
shape kinds.MatchKeyword = sole (one (only pattern))
shape kind = leaf
