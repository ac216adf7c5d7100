-- The order of messages: by file, line, column, code and text, then by node, none first, and last by arguments.
use Rattle.std.specs.Prelude.{ℕ, ◌+◌, List, Option, None, Some}
use Rattle.std.specs.declared.cmp.Ordering.{Ordering}
use Rattle.std.specs.Ordering.{nat_cmp, on, then_cmp}
use Rattle.std.specs.Cmp.Lexicographic.{slice_cmp}
use Rattle.lint_values.specs.declared.place.NodeId.{NodeId}
use Rattle.lint_messages.specs.declared.message.Message.{Message}
use Rattle.lint_messages.specs.Codes.{letters}
use Rattle.lint_messages.specs.Templates.{text_of}
use Rattle.lint_messages.specs.Sorting.{sorted_by}

-- texts by their bytes
abbrev pub text_cmp : List ℕ → List ℕ → Ordering
text_cmp = slice_cmp nat_cmp

-- no node stands before all nodes
abbrev pub node_rank : Option NodeId → ℕ
node_rank None = 0
node_rank (Some node) = node.0 + 1

-- by file, line and column
abbrev pub place_cmp : Message → Message → Ordering
place_cmp = then_cmp (on (λ m. m.file.0) nat_cmp) (then_cmp (on (λ m. m.pos.line) nat_cmp) (on (λ m. m.pos.col) nat_cmp))

-- by code, text, node and arguments
abbrev pub content_cmp : Message → Message → Ordering
content_cmp =
    then_cmp (on (λ m. letters m.code) text_cmp)
    (then_cmp (on text_of text_cmp)
    (then_cmp (on (λ m. node_rank m.node) nat_cmp) (on (λ m. m.args) (slice_cmp text_cmp))))

abbrev pub message_cmp : Message → Message → Ordering
message_cmp = then_cmp place_cmp content_cmp

-- these messages in their order
abbrev pub in_order : List Message → List Message
in_order = sorted_by message_cmp
