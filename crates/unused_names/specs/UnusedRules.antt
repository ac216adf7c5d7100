-- The messages on unused names: unused-import, unused-variable, unused-argument.
use Rattle.std.specs.Prelude.{ℕ, Bool, List, [], ◌++◌, Option, None, Some}
use Rattle.std.specs.List.{flat_map}
use Rattle.lint_values.specs.declared.place.FileId.{FileId}
use Rattle.lint_messages.specs.declared.message.Message.{Message}
use Rattle.tree_nodes.specs.Trees.{Tree}
use Rattle.scope_rules.specs.Nodes.{nodes_of}
use Rattle.scope_rules.specs.Marks.{Mark}
use Rattle.unused_names.specs.Reads.{unused_at}
use Rattle.unused_names.specs.Imports.{unused_imports}
use Rattle.unused_names.specs.Variables.{unused_variables}
use Rattle.unused_names.specs.Arguments.{unused_arguments}

-- what is said of a name that is never read, by the rules' order
abbrev pub name_messages : FileId → Bool → Tree → ℕ → Option Mark → List Message
name_messages file is_package t n None = []
name_messages file is_package t n (Some m) = unused_imports file is_package t m ++ (unused_variables file t n m ++ unused_arguments file t m)

-- what is said of the name that a node is the first to bind
unfoldable pub node_messages : FileId → Bool → Tree → ℕ → List Message
node_messages file is_package t n = name_messages file is_package t n (unused_at t n)

abbrev pub messages_among : FileId → Bool → Tree → List ℕ → List Message
messages_among file is_package t ns = flat_map (node_messages file is_package t) ns

-- the messages on a tree's unused names, name by name in the order of their first binders
abbrev pub unused_messages : FileId → Bool → Tree → List Message
unused_messages file is_package t = messages_among file is_package t (nodes_of t)
