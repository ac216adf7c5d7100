-- too-many-locals: functions with more local names than allowed.
use Rattle.std.specs.Prelude.{ℕ, ◌&&◌, nat_lt, List, [], ◌∷◌, filter}
use Rattle.std.specs.Fmt.{decimal}
use Rattle.std.specs.List.{filter_map}
use Rattle.std.specs.Set.{distinct_count}
use Rattle.std.specs.Str.{bytes_eq}
use Rattle.lint_values.specs.declared.place.FileId.{FileId}
use Rattle.lint_messages.specs.declared.code.Code.TheVariants.{TooManyLocals}
use Rattle.lint_messages.specs.declared.message.Message.{Message}
use Rattle.tree_nodes.specs.Trees.{Tree}
use Rattle.scope_rules.specs.Kinds.{is_def}
use Rattle.scope_rules.specs.Nodes.{Name, kind_of, nodes_of}
use Rattle.scope_rules.specs.Binding.{makes_local}
use Rattle.scope_rules.specs.Declaring.{is_local}
use Rattle.rule_nodes.specs.Nodes.{message_at, due, of_nodes, is_public}

-- the public names that are local to a scope, parameters among them, each once or more
abbrev pub local_names : Tree → ℕ → List Name
local_names t s = filter (λ x. is_public x && is_local t s x) (filter_map (makes_local t) (nodes_of t))

-- how many different ones there are
abbrev pub local_count : Tree → ℕ → ℕ
local_count t s = distinct_count bytes_eq (local_names t s)

abbrev pub too_many : FileId → ℕ → Tree → ℕ → List Message
too_many file most t n = due (is_def (kind_of t n) && nat_lt most (local_count t n)) (message_at file t n TooManyLocals (decimal (local_count t n) ∷ decimal most ∷ []))

-- too-many-locals
abbrev pub too_many_locals : FileId → ℕ → Tree → List Message
too_many_locals file most t = of_nodes (too_many file most t) t
