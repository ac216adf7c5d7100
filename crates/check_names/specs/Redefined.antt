-- redefined-builtin: names of builtins that are bound in a module or function.
use Rattle.std.specs.Prelude.{ℕ, Bool, ◌&&◌, List, [], ◌∷◌, Option, None, Some}
use Rattle.std.specs.List.{list_any}
use Rattle.std.specs.Str.{bytes_eq}
use Rattle.lint_values.specs.declared.place.FileId.{FileId}
use Rattle.lint_messages.specs.declared.code.Code.TheVariants.{RedefinedBuiltin}
use Rattle.lint_messages.specs.declared.message.Message.{Message}
use Rattle.tree_nodes.specs.Trees.{Tree}
use Rattle.scope_rules.specs.declared.builtin_names.TheConstants.{BUILTIN_NAMES}
use Rattle.scope_rules.specs.Nodes.{Name, kind_of, first, is_number}
use Rattle.scope_rules.specs.Places.{around, chain}
use Rattle.scope_rules.specs.Answers.{binders_of}
use Rattle.check_names.specs.Kinds.{is_module_or_def}
use Rattle.rule_nodes.specs.Nodes.{message_at, due, of_nodes}
use Rattle.check_names.specs.Nodes.{public_name}

-- a name in the table of builtin names; all of them are public
abbrev pub is_builtin_name : Name → Bool
is_builtin_name x = list_any (λ name. bytes_eq x name.now) BUILTIN_NAMES

-- the scope is the module or a function, and the node is the first to bind the name there
abbrev pub is_first_binder : Tree → ℕ → Name → ℕ → Bool
is_first_binder t n x s = is_module_or_def (kind_of t s) && is_number (first (binders_of t s x)) n

-- the node is the first to bind the name in some scope around it
abbrev pub is_first_around : Tree → ℕ → Name → Bool
is_first_around t n x = list_any (is_first_binder t n x) (chain t (around t n))

abbrev pub redefined_by : FileId → Tree → ℕ → Option Name → List Message
redefined_by file t n None = []
redefined_by file t n (Some x) = due (is_builtin_name x && is_first_around t n x) (message_at file t n RedefinedBuiltin (x ∷ []))

abbrev pub redefined_builtin : FileId → Tree → ℕ → List Message
redefined_builtin file t n = redefined_by file t n (public_name t n)

-- redefined-builtin
abbrev pub redefined_builtins : FileId → Tree → List Message
redefined_builtins file t = of_nodes (redefined_builtin file t) t
