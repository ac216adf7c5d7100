-- return-outside-function: a `return` that belongs to no function, but to a class or the module.
use Rattle.std.specs.Prelude.{ℕ, not, List, [], ◌&&◌}
use Rattle.lint_values.specs.declared.place.FileId.{FileId}
use Rattle.lint_messages.specs.declared.message.Message.{Message}
use Rattle.tree_nodes.specs.Trees.{Tree}
use Rattle.scope_rules.specs.Nodes.{kind_of}
use Rattle.flow_rules.specs.declared.rule.Rule.TheVariants.{ReturnOutsideFunction}
use Rattle.flow_rules.specs.Kinds.{is_return}
use Rattle.rule_nodes.specs.Nodes.{due}
use Rattle.flow_rules.specs.Nodes.{message_of}
use Rattle.rule_nodes.specs.Outwards.{owner_of}
use Rattle.flow_rules.specs.Outwards.{is_function_there}

-- return-outside-function
abbrev pub return_outside : FileId → Tree → ℕ → List Message
return_outside file t n = due (is_return (kind_of t n) && not (is_function_there t (owner_of t n))) (message_of file t n ReturnOutsideFunction [])
