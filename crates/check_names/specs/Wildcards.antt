-- wildcard-import: imports of all names of a module.
use Rattle.std.specs.Prelude.{ℕ, Bool, ◌&&◌, if◌then◌else◌, List, [], ◌∷◌}
use Rattle.std.specs.List.{list_any}
use Rattle.lint_values.specs.declared.place.FileId.{FileId}
use Rattle.lint_messages.specs.declared.code.Code.TheVariants.{WildcardImport}
use Rattle.lint_messages.specs.declared.message.Message.{Message}
use Rattle.tree_nodes.specs.Trees.{Tree, kids_at}
use Rattle.scope_rules.specs.Nodes.{kind_of}
use Rattle.rule_nodes.specs.Kinds.{is_import_from}
use Rattle.check_names.specs.Kinds.{is_wildcard}
use Rattle.rule_nodes.specs.Nodes.{written, message_at, due, of_nodes}

-- `from .. import *`
abbrev pub imports_all : Tree → ℕ → Bool
imports_all t n = is_import_from (kind_of t n) && list_any (λ k. is_wildcard (kind_of t k)) (kids_at t n)

-- at the statement, with the module as written
abbrev pub wildcard_import : FileId → Tree → ℕ → List Message
wildcard_import file t n = due (imports_all t n) (message_at file t n WildcardImport (written t n ∷ []))

-- wildcard-import: a package's own file, `__init__.py`, has no such message
abbrev pub wildcard_imports : FileId → Bool → Tree → List Message
wildcard_imports file is_package t = if is_package then [] else of_nodes (wildcard_import file t) t
