use Rattle.check_basic.specs.TreeRules.{pass_message}
use Rattle.check_basic.proofs.NodeSteps.{flat_on, made_on}
use Rattle.check_basic.proofs.passes.check_each_pass.Goals as goal

pub loop-kid-preserved : goal.loop-kid-preserved
loop-kid-preserved c = record {
  made = made_on c.args.tree.now _ _ _ c.in-Some.ensures.cases.0 c.loop-kid.invariant.made;
  told = flat_on (pass_message c.args.file c.args.tree.now) _ _ _ _ _ _ c.in-Some.ensures.cases.0 c.in_ok-check_pass.ensures c.loop-kid.invariant.told;
}
