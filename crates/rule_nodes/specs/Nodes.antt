-- Names of nodes, and messages about them.
use Rattle.std.specs.Prelude.{ℕ, Bool, true, not, ◌==◌, if◌then◌else◌, List, [], ◌∷◌, Some, unwrap_or}
use Rattle.std.specs.List.{flat_map}
use Rattle.lint_values.specs.declared.place.FileId.{FileId}
use Rattle.lint_messages.specs.declared.code.Code.{Code}
use Rattle.lint_messages.specs.declared.message.Message.{Message}
use Rattle.tree_nodes.specs.Trees.{Tree, node_at}
use Rattle.scope_rules.specs.Nodes.{Name, name_of, nodes_of}

-- a node's name as written, or nothing
abbrev pub written : Tree → ℕ → Name
written t n = unwrap_or (name_of t n) []

-- a name that does not begin with `_` is public
abbrev pub is_public : Name → Bool
is_public [] = true
is_public (b ∷ bs) = not (b == 95)

-- a message of a node
abbrev pub message_at : FileId → Tree → ℕ → Code → List Name → Message
message_at file t n code args = record { file = file; node = Some (record { 0 = n }); pos = (node_at t n).pos; code = code; args = args }

-- a message, where it is due
abbrev pub due : Bool → Message → List Message
due is_due message = if is_due then message ∷ [] else []

-- what all nodes have, in source order
abbrev pub of_nodes : (ℕ → List Message) → Tree → List Message
of_nodes messages t = flat_map messages (nodes_of t)
