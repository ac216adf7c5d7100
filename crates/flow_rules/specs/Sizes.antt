-- too-many-return-statements, too-many-branches, too-many-arguments and too-many-statements: what a function has more of
-- than is allowed. What its inner functions and classes hold is not its own.
use Rattle.std.specs.Prelude.{ℕ, Bool, ◌&&◌, nat_lt, if◌then◌else◌, List, [], ◌∷◌, sum_by, count_by}
use Rattle.std.specs.Fmt.{decimal}
use Rattle.lint_values.specs.declared.place.FileId.{FileId}
use Rattle.lint_messages.specs.declared.message.Message.{Message}
use Rattle.tree_nodes.specs.declared.kind.Kind.{Kind}
use Rattle.tree_nodes.specs.Trees.{Tree, kids_at}
use Rattle.options.specs.declared.settings.Options.{Options}
use Rattle.scope_rules.specs.Kinds.{is_def}
use Rattle.scope_rules.specs.Nodes.{kind_of, nodes_of, is_number}
use Rattle.flow_rules.specs.declared.rule.Rule.{Rule}
use Rattle.flow_rules.specs.declared.rule.Rule.TheVariants.{TooManyReturnStatements, TooManyBranches, TooManyArguments, TooManyStatements}
use Rattle.flow_rules.specs.declared.size.Size.{Size}
use Rattle.flow_rules.specs.declared.size.Size.TheVariants as sizes
use Rattle.rule_nodes.specs.Kinds.{is_counted}
use Rattle.flow_rules.specs.Kinds.{is_return, is_branch, is_finally, is_single_parameter}
use Rattle.rule_nodes.specs.Nodes.{due, written, is_public}
use Rattle.flow_rules.specs.Nodes.{message_of}
use Rattle.rule_nodes.specs.Outwards.{owner_of}

-- 1 where it is so
abbrev pub one_if : Bool → ℕ
one_if is_so = if is_so then 1 else 0

-- how many branches it makes: `finally` makes two
abbrev pub branches_of : Kind → ℕ
branches_of kind = if is_finally kind then 2 else one_if (is_branch kind)

-- what a node adds to a size of the function that it belongs to
abbrev pub part_of : Size → Kind → ℕ
part_of sizes.Returns kind = one_if (is_return kind)
part_of sizes.Branches kind = branches_of kind
part_of sizes.Statements kind = one_if (is_counted kind)

-- what it adds to that of the function d: something where d is the nearest function or class above it
abbrev pub part_in : Size → Tree → ℕ → ℕ → ℕ
part_in size t d n = if is_number (owner_of t n) d then part_of size (kind_of t n) else 0

-- the size of the function d: all parts together
abbrev pub total : Size → Tree → ℕ → ℕ
total size t d = sum_by (part_in size t d) (nodes_of t)

-- a parameter that counts: not one behind `*` or `**`, and none with `_` in front
abbrev pub is_counted_parameter : Tree → ℕ → Bool
is_counted_parameter t k = is_single_parameter (kind_of t k) && is_public (written t k)

-- how many of these nodes count
abbrev pub parameters_among : Tree → List ℕ → ℕ
parameters_among t kids = count_by (is_counted_parameter t) kids

-- how many parameters of a function count: those before and behind `/` and `*` alike
abbrev pub parameter_count : Tree → ℕ → ℕ
parameter_count t d = parameters_among t (kids_at t d)

-- a function with more than is allowed: the message tells both numbers
abbrev pub too_many : FileId → Tree → Rule → ℕ → ℕ → ℕ → List Message
too_many file t rule count most n = due (is_def (kind_of t n) && nat_lt most count) (message_of file t n rule (decimal count ∷ decimal most ∷ []))

-- too-many-return-statements
abbrev pub too_many_returns : Options → FileId → Tree → ℕ → List Message
too_many_returns options file t n = too_many file t TooManyReturnStatements (total sizes.Returns t n) options.max_returns n

-- too-many-branches
abbrev pub too_many_branches : Options → FileId → Tree → ℕ → List Message
too_many_branches options file t n = too_many file t TooManyBranches (total sizes.Branches t n) options.max_branches n

-- too-many-arguments
abbrev pub too_many_arguments : Options → FileId → Tree → ℕ → List Message
too_many_arguments options file t n = too_many file t TooManyArguments (parameter_count t n) options.max_args n

-- too-many-statements
abbrev pub too_many_statements : Options → FileId → Tree → ℕ → List Message
too_many_statements options file t n = too_many file t TooManyStatements (total sizes.Statements t n) options.max_statements n
