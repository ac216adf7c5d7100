-- What the tree of a source says of a function's parameters and of a call's arguments.
use Rattle.std.specs.Prelude.{ℕ, zero, suc, Bool, true, false, not, ◌&&◌, ◌||◌, nat_lt, List, [], ◌∷◌, length, map, filter, drop, Option, Some, None, unwrap_or}
use Rattle.std.specs.List.{list_any}
use Rattle.tree_nodes.specs.declared.kind.Kind.{Kind}
use Rattle.tree_nodes.specs.declared.kind.Kind.TheVariants as kinds
use Rattle.tree_nodes.specs.Trees.{Tree, kids_at, parent_at}
use Rattle.scope_rules.specs.Kinds.{is_def, is_class, is_parameter}
use Rattle.scope_rules.specs.Nodes.{Name, kind_of, name_of}
use Rattle.scope_rules.specs.Mangling.{is_private, spelled}
use Rattle.call_binding.specs.declared.parameter_kind.ParameterKind.{ParameterKind}
use Rattle.call_binding.specs.declared.parameter_kind.ParameterKind.TheVariants as parameter
use Rattle.call_binding.specs.Parameters.{Parameter, Formals, Actuals}

-- ---- kinds of nodes

-- a function with a name, or a lambda
unfoldable pub is_function : Kind → Bool
is_function kinds.FunctionDef = true
is_function kinds.AsyncFunctionDef = true
is_function kinds.Lambda = true
is_function kind = false

-- `/` among parameters
unfoldable pub is_slash : Kind → Bool
is_slash kinds.PositionalOnlyMark = true
is_slash kind = false

-- the annotation of a parameter
unfoldable pub is_annotation : Kind → Bool
is_annotation kinds.Annotation = true
is_annotation kinds.StarAnnotation = true
is_annotation kind = false

-- `f(..)`
unfoldable pub is_call : Kind → Bool
is_call kinds.Call = true
is_call kind = false

-- `x=..` among arguments
unfoldable pub is_keyword : Kind → Bool
is_keyword kinds.KeywordArgument = true
is_keyword kind = false

-- `*..` or `**..` among arguments
unfoldable pub is_star : Kind → Bool
is_star kinds.StarArgument = true
is_star kinds.DoubleStarArgument = true
is_star kind = false

-- an argument without a keyword or star
unfoldable pub is_plain : Kind → Bool
is_plain kind = not (is_keyword kind) && not (is_star kind)

-- ---- parameters

-- a function's parameters, in source order
abbrev pub params_among : Tree → List ℕ → List ℕ
params_among t ks = filter (λ k. is_parameter (kind_of t k)) ks

abbrev pub params_of : Tree → ℕ → List ℕ
params_of t d = params_among t (kids_at t d)

-- `/` stands behind this parameter: nodes are numbered in source order
abbrev pub is_before_slash : Tree → ℕ → List ℕ → Bool
is_before_slash t k parts = list_any (λ m. is_slash (kind_of t m) && nat_lt k m) parts

-- how a parameter before `*` takes a value
abbrev pub plain_kind : Bool → ParameterKind
plain_kind true = parameter.PositionalOnly
plain_kind false = parameter.PositionalOrKeyword

-- how a parameter takes a value
unfoldable pub parameter_kind : Kind → Bool → ParameterKind
parameter_kind kinds.Parameter before_slash = plain_kind before_slash
parameter_kind kinds.StarParameter before_slash = parameter.VarPositional
parameter_kind kinds.KeywordOnlyParameter before_slash = parameter.KeywordOnly
parameter_kind kind before_slash = parameter.VarKeyword

-- what stands behind `=`: all but an annotation
abbrev pub has_default : Tree → List ℕ → Bool
has_default t parts = list_any (λ e. not (is_annotation (kind_of t e))) parts

-- a parameter of a function: a private name of a class counts as it is read there
unfoldable pub parameter_of : Tree → ℕ → ℕ → Parameter
parameter_of t d k = record { kind = parameter_kind (kind_of t k) (is_before_slash t k (kids_at t d)); name = unwrap_or (spelled t k) []; has_default = has_default t (kids_at t k) }

-- some of a function's parts, as parameters
abbrev pub parameters_among : Tree → ℕ → List ℕ → List Parameter
parameters_among t d ks = map (parameter_of t d) (params_among t ks)

-- what the function takes, with a receiver first or not
unfoldable pub formals_of : Tree → ℕ → Bool → Formals
formals_of t d receiver = record { params = parameters_among t d (kids_at t d); receiver = receiver }

-- ---- arguments

-- what stands between the brackets of a call
abbrev pub arguments_of : Tree → ℕ → List ℕ
arguments_of t c = drop 1 (kids_at t c)

-- the plain arguments, in source order
abbrev pub plain_among : Tree → List ℕ → List ℕ
plain_among t ks = filter (λ k. is_plain (kind_of t k)) ks

-- the arguments with a keyword, in source order
abbrev pub keywords_among : Tree → List ℕ → List ℕ
keywords_among t ks = filter (λ k. is_keyword (kind_of t k)) ks

-- their keywords as written
abbrev pub written : Tree → ℕ → Name
written t k = unwrap_or (name_of t k) []

abbrev pub names_among : Tree → List ℕ → List Name
names_among t ks = map (written t) (keywords_among t ks)

-- a class stands above a node, at most so many steps up
abbrev pub has_class_above : (ℕ → Bool) → Tree → Option ℕ → Bool
has_class_above above t None = false
has_class_above above t (Some p) = is_class (kind_of t p) || above p

unfoldable pub is_within_class : ℕ → Tree → ℕ → Bool
is_within_class zero t n = false
is_within_class (suc most) t n = has_class_above (is_within_class most t) t (parent_at t n)

-- a node stands anywhere below a class statement: each node has a higher number than the one above it
unfoldable pub is_in_class : Tree → ℕ → Bool
is_in_class t n = is_within_class n t n

-- one of the arguments has `*` or `**`
abbrev pub has_star : Tree → List ℕ → Bool
has_star t ks = list_any (λ k. is_star (kind_of t k)) ks

-- one of these keywords is a private name
abbrev pub has_private : List Name → Bool
has_private xs = list_any is_private xs

-- a call has `*` or `**`; one within a class with a private keyword counts as such
abbrev pub is_starred : Tree → ℕ → Bool
is_starred t c = has_star t (arguments_of t c) || (is_in_class t c && has_private (names_among t (arguments_of t c)))

-- what the call gives
unfoldable pub actuals_of : Tree → ℕ → Actuals
actuals_of t c = record { positionals = length (plain_among t (arguments_of t c)); keywords = names_among t (arguments_of t c); starred = is_starred t c }
