use Rattle.rule_nodes.specs.Nodes.{due}
use Rattle.unused_names.specs.Imports.{is_reported_alias, import_message}
use Rattle.unused_names.proofs.Lists.{flat_on, made_on}
use Rattle.tree_nodes.specs.Trees.{count_of}
use Rattle.unused_names.proofs.imports.check_aliases.Goals as goal

pub loop-node-preserved : goal.loop-node-preserved
loop-node-preserved c = record {
  made = made_on (count_of c.args.tree.now) _ _ _ c.in-Some.ensures.cases.0 c.loop-node.invariant.made;
  told = flat_on (λ n. due (is_reported_alias c.args.tree.now n) (import_message c.args.file c.args.tree.now n)) _ _ _ _ _ _ c.in-Some.ensures.cases.0 c.in_ok-check_alias.ensures c.loop-node.invariant.told;
}
