-- The messages of all nine rules on a tree.
use Rattle.std.specs.Prelude.{ℕ, List}
use Rattle.std.specs.List.{flat_map}
use Rattle.lint_values.specs.declared.place.FileId.{FileId}
use Rattle.lint_messages.specs.declared.message.Message.{Message}
use Rattle.options.specs.declared.settings.Options.{Options}
use Rattle.tree_nodes.specs.Trees.{Tree}
use Rattle.flow_rules.specs.declared.rule.Rule.{Rule}
use Rattle.flow_rules.specs.declared.rule.Rule.TheVariants.{Unreachable, BareExcept, FunctionRedefined, NotInLoop, ReturnOutsideFunction, TooManyReturnStatements, TooManyBranches, TooManyArguments, TooManyStatements}
use Rattle.flow_rules.specs.declared.rule.TheConstants.{ALL_RULES}
use Rattle.rule_nodes.specs.Nodes.{of_nodes}
use Rattle.flow_rules.specs.Unreachable.{unreachable}
use Rattle.flow_rules.specs.BareExcept.{bare_except}
use Rattle.flow_rules.specs.Redefined.{function_redefined}
use Rattle.flow_rules.specs.Loops.{not_in_loop}
use Rattle.flow_rules.specs.Returns.{return_outside}
use Rattle.flow_rules.specs.Sizes.{too_many_returns, too_many_branches, too_many_arguments, too_many_statements}

-- what a rule says of a node
unfoldable pub said_of : Options → FileId → Tree → Rule → ℕ → List Message
said_of options file t Unreachable n = unreachable file t n
said_of options file t BareExcept n = bare_except file t n
said_of options file t FunctionRedefined n = function_redefined file t n
said_of options file t NotInLoop n = not_in_loop file t n
said_of options file t ReturnOutsideFunction n = return_outside file t n
said_of options file t TooManyReturnStatements n = too_many_returns options file t n
said_of options file t TooManyBranches n = too_many_branches options file t n
said_of options file t TooManyArguments n = too_many_arguments options file t n
said_of options file t TooManyStatements n = too_many_statements options file t n

-- what a rule says of all nodes, in source order
abbrev pub said_by : Options → FileId → Tree → Rule → List Message
said_by options file t rule = of_nodes (said_of options file t rule) t

-- what some rules say, one after another
abbrev pub said_by_all : Options → FileId → Tree → List Rule → List Message
said_by_all options file t rules = flat_map (said_by options file t) rules

-- the messages of a tree, rule after rule
abbrev pub flow_messages : Options → FileId → Tree → List Message
flow_messages options file t = said_by_all options file t ALL_RULES
