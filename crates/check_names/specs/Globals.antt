-- global-statement: `global` in functions that bind one of the names.
use Rattle.std.specs.Prelude.{ℕ, Bool, false, ◌&&◌, ◌==◌, List, [], Option, None, Some}
use Rattle.std.specs.List.{list_any}
use Rattle.lint_values.specs.declared.place.FileId.{FileId}
use Rattle.lint_messages.specs.declared.code.Code.TheVariants.{GlobalStatement}
use Rattle.lint_messages.specs.declared.message.Message.{Message}
use Rattle.tree_nodes.specs.Trees.{Tree, kids_at}
use Rattle.scope_rules.specs.Kinds.{is_def}
use Rattle.scope_rules.specs.Nodes.{Name, kind_of}
use Rattle.scope_rules.specs.Places.{around}
use Rattle.scope_rules.specs.Mangling.{spelled}
use Rattle.scope_rules.specs.Binding.{own_scope}
use Rattle.scope_rules.specs.Declaring.{is_global}
use Rattle.scope_rules.specs.Answers.{binders_of}
use Rattle.rule_nodes.specs.Nodes.{message_at, due, of_nodes}

-- a binder of the module's name stands in that scope, or in its comprehensions as a walrus
abbrev pub binds_global : Tree → ℕ → Option Name → Bool
binds_global t s None = false
binds_global t s (Some x) = list_any (λ b. own_scope t b == s) (binders_of t 0 x)

-- a scope binds one of the names that a statement declares
abbrev pub binds_one : Tree → ℕ → List ℕ → Bool
binds_one t s names = list_any (λ k. binds_global t s (spelled t k)) names

-- a `global` statement in a function that binds one of its names
abbrev pub is_used_global : Tree → ℕ → Bool
is_used_global t n = is_global (kind_of t n) && (is_def (kind_of t (around t n)) && binds_one t (around t n) (kids_at t n))

abbrev pub global_statement : FileId → Tree → ℕ → List Message
global_statement file t n = due (is_used_global t n) (message_at file t n GlobalStatement [])

-- global-statement
abbrev pub global_statements : FileId → Tree → List Message
global_statements file t = of_nodes (global_statement file t) t
