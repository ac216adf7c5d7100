use Rattle.std.specs.Prelude.{◌++◌, codes}
use Rattle.rule_nodes.specs.Nodes.{written}
use Rattle.check_basic.proofs.NodeSteps.{flat_on, made_on}
use Rattle.check_basic.proofs.imports.push_names_behind.Goals as goal

pub loop-kid-preserved : goal.loop-kid-preserved
loop-kid-preserved c = record {
  made = made_on c.args.tree.now _ _ _ c.in-Some.ensures.cases.0 c.loop-kid.invariant.made;
  told = flat_on (λ k. codes ", " ++ written c.args.tree.now k) _ _ _ _ _ _ c.in-Some.ensures.cases.0 c.in_ok-push_name_behind.ensures c.loop-kid.invariant.told;
}
