-- undefined-variable: names that are read and lead nowhere.
use Rattle.std.specs.Prelude.{ℕ, Bool, true, false, not, ◌&&◌, if◌then◌else◌, List, [], ◌∷◌}
use Rattle.std.specs.List.{list_any}
use Rattle.lint_values.specs.declared.place.FileId.{FileId}
use Rattle.lint_messages.specs.declared.code.Code.TheVariants.{UndefinedVariable}
use Rattle.lint_messages.specs.declared.message.Message.{Message}
use Rattle.tree_nodes.specs.Trees.{Tree}
use Rattle.scope_rules.specs.declared.scope.Where.{Where}
use Rattle.scope_rules.specs.declared.scope.Where.TheVariants.{Nowhere}
use Rattle.scope_rules.specs.Nodes.{Name, kind_of, nodes_of}
use Rattle.scope_rules.specs.Reading.{is_read_name, resolved}
use Rattle.check_names.specs.Kinds.{is_wildcard}
use Rattle.rule_nodes.specs.Nodes.{written, message_at, due, of_nodes}
use Rattle.check_names.specs.Nodes.{is_among}
use Rattle.check_names.specs.Guards.{is_guarded}

abbrev pub is_nowhere : Where → Bool
is_nowhere Nowhere = true
is_nowhere answer = false

-- a name that is read and leads nowhere
abbrev pub leads_nowhere : Tree → ℕ → Bool
leads_nowhere t n = is_read_name (kind_of t n) && is_nowhere (resolved t n)

-- it is no additional builtin, as written, and nothing looks after it
abbrev pub is_undefined : List Name → Tree → ℕ → Bool
is_undefined additional t n = leads_nowhere t n && (not (is_among additional (written t n)) && not (is_guarded t n))

abbrev pub undefined_variable : FileId → List Name → Tree → ℕ → List Message
undefined_variable file additional t n = due (is_undefined additional t n) (message_at file t n UndefinedVariable (written t n ∷ []))

-- an import of all names, anywhere in the file
abbrev pub has_wildcard : Tree → Bool
has_wildcard t = list_any (λ n. is_wildcard (kind_of t n)) (nodes_of t)

-- undefined-variable: a file that imports all names of a module has no such message
abbrev pub undefined_variables : FileId → List Name → Tree → List Message
undefined_variables file additional t = if has_wildcard t then [] else of_nodes (undefined_variable file additional t) t
