use Rattle.std.specs.Prelude.{◌∷◌, []}
use Rattle.lint_messages.specs.declared.code.Code.TheVariants.{UnusedArgument}
use Rattle.rule_nodes.specs.Nodes.{due, message_at}
use Rattle.unused_names.specs.Arguments.{is_reported_parameter}
use Rattle.unused_names.proofs.Lists.{flat_on, made_on}
use Rattle.tree_nodes.specs.Trees.{count_of}
use Rattle.unused_names.proofs.arguments.check_parameters.Goals as goal

pub loop-node-preserved : goal.loop-node-preserved
loop-node-preserved c = record {
  made = made_on (count_of c.args.tree.now) _ _ _ c.in-Some.ensures.cases.0 c.loop-node.invariant.made;
  told = flat_on (λ n. due (is_reported_parameter c.args.tree.now n) (message_at c.args.file c.args.tree.now n UnusedArgument (c.args.name.now ∷ []))) _ _ _ _ _ _ c.in-Some.ensures.cases.0 c.in_ok-check_parameter.ensures c.loop-node.invariant.told;
}
