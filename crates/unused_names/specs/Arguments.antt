-- unused-argument: the parameters of functions that are never read.
use Rattle.std.specs.Prelude.{ℕ, Bool, false, not, ◌&&◌, ◌||◌, List, [], ◌∷◌, codes}
use Rattle.std.specs.List.{list_all, find, flat_map}
use Rattle.std.specs.Str.{bytes_eq}
use Rattle.lint_values.specs.declared.place.FileId.{FileId}
use Rattle.lint_messages.specs.declared.code.Code.TheVariants.{UnusedArgument}
use Rattle.lint_messages.specs.declared.message.Message.{Message}
use Rattle.tree_nodes.specs.Trees.{Tree, kids_at, parent_at}
use Rattle.scope_rules.specs.Kinds.{is_def, is_class, is_parameter, is_in_body}
use Rattle.scope_rules.specs.Nodes.{kind_of, is_number}
use Rattle.scope_rules.specs.Places.{around}
use Rattle.scope_rules.specs.Marks.{Mark}
use Rattle.scope_rules.specs.Reading.{is_special}
use Rattle.scope_rules.specs.Answers.{binders_of}
use Rattle.rule_nodes.specs.Kinds.{is_expression_statement, is_ellipsis}
use Rattle.rule_nodes.specs.Nodes.{written, message_at, due}
use Rattle.rule_nodes.specs.Parts.{has_base, has_decorator}
use Rattle.unused_names.specs.Kinds.{is_empty_statement}
use Rattle.unused_names.specs.Nodes.{asked_above}

-- ---- the function

-- a class with bases
unfoldable pub has_bases : Tree → ℕ → Bool
has_bases t n = is_class (kind_of t n) && has_base t (kids_at t n)

-- a function in the body of a class
abbrev pub is_method : Tree → ℕ → Bool
is_method t n = is_class (kind_of t (around t n))

-- a method `__x__` other than `__init__`
unfoldable pub is_special_method : Tree → ℕ → Bool
is_special_method t n = is_method t n && (is_special (written t n) && not (bytes_eq (written t n) (codes "__init__")))

-- there is one node, and it is `...`
unfoldable pub is_sole_ellipsis : Tree → List ℕ → Bool
is_sole_ellipsis t (k ∷ []) = is_ellipsis (kind_of t k)
is_sole_ellipsis t kids = false

-- a statement that does nothing: a docstring, `pass`, `raise` or `...`
unfoldable pub is_stub : Tree → ℕ → Bool
is_stub t n = is_empty_statement (kind_of t n) || (is_expression_statement (kind_of t n) && is_sole_ellipsis t (kids_at t n))

-- no part of a function, or one that does nothing
unfoldable pub does_nothing : Tree → ℕ → Bool
does_nothing t n = not (is_in_body (kind_of t n)) || is_stub t n

-- all of these
abbrev pub are_stubs : Tree → List ℕ → Bool
are_stubs t kids = list_all (does_nothing t) kids

-- a function whose parameters are not reported: decorated, without a body, in a class with bases, or a special method
unfoldable pub is_silent : Tree → ℕ → Bool
is_silent t n = has_decorator t (kids_at t n) || (are_stubs t (kids_at t n) || (has_bases t (around t n) || is_special_method t n))

-- ---- the parameter

-- the first parameter, of whatever kind
abbrev pub is_first_parameter : Tree → List ℕ → ℕ → Bool
is_first_parameter t kids n = is_number (find (λ k. is_parameter (kind_of t k)) kids) n

-- the function reports its parameter n: not the first one of a method
unfoldable pub reports : Tree → ℕ → ℕ → Bool
reports t n d = is_def (kind_of t d) && (not (is_silent t d) && not (is_method t d && is_first_parameter t (kids_at t d) n))

-- a parameter that is reported where it is never read
unfoldable pub is_reported_parameter : Tree → ℕ → Bool
is_reported_parameter t n = is_parameter (kind_of t n) && asked_above (reports t n) (parent_at t n)

-- the messages of these binders of a name
abbrev pub arguments_among : FileId → Tree → List ℕ → List ℕ → List Message
arguments_among file t x ns = flat_map (λ n. due (is_reported_parameter t n) (message_at file t n UnusedArgument (x ∷ []))) ns

-- the messages of a name that is never read, and not exempt
unfoldable pub unused_arguments : FileId → Tree → Mark → List Message
unused_arguments file t m = arguments_among file t m.name (binders_of t m.scope m.name)
