-- unused-variable: the local names of functions that are never read.
use Rattle.std.specs.Prelude.{ℕ, Bool, not, ◌&&◌, ◌||◌, ◌==◌, if◌then◌else◌, List, [], ◌∷◌, codes}
use Rattle.std.specs.List.{list_any, flat_map}
use Rattle.lint_values.specs.declared.place.FileId.{FileId}
use Rattle.lint_messages.specs.declared.code.Code.TheVariants.{UnusedVariable}
use Rattle.lint_messages.specs.declared.message.Message.{Message}
use Rattle.tree_nodes.specs.Trees.{Tree, kids_at}
use Rattle.scope_rules.specs.Kinds.{is_def, is_parameter}
use Rattle.scope_rules.specs.Nodes.{kind_of, name_of, nodes_of, first}
use Rattle.scope_rules.specs.Places.{around}
use Rattle.scope_rules.specs.Binding.{is_alias, beyond_comprehensions}
use Rattle.scope_rules.specs.Marks.{Mark}
use Rattle.scope_rules.specs.Reading.{is_read_name}
use Rattle.scope_rules.specs.Answers.{binders_of}
use Rattle.unused_names.specs.Kinds.{is_call}
use Rattle.rule_nodes.specs.Nodes.{message_at, due}
use Rattle.unused_names.specs.Nodes.{is_name, asked_above}

-- a binder that another rule speaks of: a parameter or an imported name
unfoldable pub is_other_binder : Tree → ℕ → Bool
is_other_binder t n = is_parameter (kind_of t n) || is_alias (kind_of t n)

-- the name `locals` that is read
unfoldable pub is_locals : Tree → ℕ → Bool
is_locals t k = is_read_name (kind_of t k) && is_name (name_of t k) (codes "locals")

-- a call of `locals`
unfoldable pub calls_locals : Tree → ℕ → Bool
calls_locals t n = is_call (kind_of t n) && asked_above (is_locals t) (first (kids_at t n))

-- the function, class or module in which such a call stands, itself or in its comprehensions
unfoldable pub locals_of : Tree → ℕ → List ℕ
locals_of t n = if calls_locals t n then beyond_comprehensions t (around t n) ∷ [] else []

abbrev pub locals_among : Tree → List ℕ → List ℕ
locals_among t ns = flat_map (locals_of t) ns

-- `locals` is called in that scope
abbrev pub is_listed : Tree → ℕ → Bool
is_listed t s = list_any (λ o. o == s) (locals_among t (nodes_of t))

-- a local name of a `def` that no parameter and no import binds, and that no call of `locals` hands on
abbrev pub is_variable : Tree → Mark → Bool
is_variable t m = is_def (kind_of t m.scope) && (not (list_any (is_other_binder t) (binders_of t m.scope m.name)) && not (is_listed t m.scope))

-- the message of a name that is never read, and not exempt, at its first binder
unfoldable pub unused_variables : FileId → Tree → ℕ → Mark → List Message
unused_variables file t n m = due (is_variable t m) (message_at file t n UnusedVariable (m.name ∷ []))
