-- Messages of rules, and the statements of a block.
use Rattle.std.specs.Prelude.{ℕ, List, filter}
use Rattle.lint_values.specs.declared.place.FileId.{FileId}
use Rattle.lint_messages.specs.declared.message.Message.{Message}
use Rattle.tree_nodes.specs.Trees.{Tree, kids_at}
use Rattle.scope_rules.specs.Nodes.{Name, kind_of}
use Rattle.rule_nodes.specs.Kinds.{is_statement}
use Rattle.rule_nodes.specs.Nodes.{message_at}
use Rattle.flow_rules.specs.declared.rule.Rule.{Rule}
use Rattle.flow_rules.specs.Codes.{code_of}

-- a rule's message of a node
abbrev pub message_of : FileId → Tree → ℕ → Rule → List Name → Message
message_of file t n rule args = message_at file t n (code_of rule) args

-- the statements among these nodes
abbrev pub statements_in : Tree → List ℕ → List ℕ
statements_in t kids = filter (λ k. is_statement (kind_of t k)) kids

-- the statements of a node's own block, in order: those of its clauses stand in blocks of their own
abbrev pub block : Tree → ℕ → List ℕ
block t n = statements_in t (kids_at t n)
