use Rattle.std.proofs.Common.{length, ap, arith}
use Rattle.flow_rules.proofs.NodeSteps.{parameters_on, made_on}
use Rattle.flow_rules.proofs.sizes.parameters_among.Goals as goal

pub loop-kid-preserved : goal.loop-kid-preserved
loop-kid-preserved c = record {
  made = made_on c.args.tree.now _ _ _ c.in-Some.ensures.cases.0 c.loop-kid.invariant.made;
  within = omega (arith, c.loop-kid.invariant.within, c.parameter_part-len.ensures.few, ap length c.in-Some.ensures.cases.0);
  same = parameters_on c.args.tree.now _ _ _ _ _ _ c.in-Some.ensures.cases.0 c.parameter_part-len.ensures.part c.loop-kid.invariant.same;
}
