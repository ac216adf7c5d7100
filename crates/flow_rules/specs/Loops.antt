-- not-in-loop: `break` and `continue` that no loop is around, within the function or class that they belong to.
use Rattle.std.specs.Prelude.{ℕ, not, List, [], ◌∷◌, ◌++◌, Bool, ◌&&◌, codes}
use Rattle.lint_values.specs.declared.place.FileId.{FileId}
use Rattle.lint_messages.specs.declared.message.Message.{Message}
use Rattle.tree_nodes.specs.Trees.{Tree}
use Rattle.scope_rules.specs.Nodes.{Name, kind_of}
use Rattle.flow_rules.specs.declared.rule.Rule.TheVariants.{NotInLoop}
use Rattle.flow_rules.specs.Kinds.{is_break, is_continue}
use Rattle.rule_nodes.specs.Nodes.{due}
use Rattle.flow_rules.specs.Nodes.{message_of}
use Rattle.flow_rules.specs.Outwards.{in_loop}

-- the message names the statement by its word
abbrev pub outside_loop : FileId → Tree → ℕ → Bool → Name → List Message
outside_loop file t n is_such word = due (is_such && not (in_loop t n)) (message_of file t n NotInLoop (word ∷ []))

-- not-in-loop
abbrev pub not_in_loop : FileId → Tree → ℕ → List Message
not_in_loop file t n = outside_loop file t n (is_break (kind_of t n)) (codes "break") ++ outside_loop file t n (is_continue (kind_of t n)) (codes "continue")
