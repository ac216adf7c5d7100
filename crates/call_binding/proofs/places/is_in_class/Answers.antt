use Rattle.std.proofs.Common.{◌≡◌, ◌<◌, ◌||◌, Bool, true, false, Some, sym, ap, ◌∙◌, arith}
use Rattle.tree_nodes.specs.Trees.{parent_at}
use Rattle.scope_rules.specs.Kinds.{is_class}
use Rattle.scope_rules.specs.Nodes.{kind_of}
use Rattle.call_binding.specs.Reading.{is_in_class}
use Rattle.call_binding.proofs.PlaceLaws.{in_class_found, in_class_on}
use Rattle.call_binding.proofs.places.is_in_class.Goals as goal

pub returns-then-is_class : goal.returns-then-is_class
returns-then-is_class c =
    in_class_found c.args.tree.now c.loop-p.below.0 c.in-Some.p.0 c.loop-p.invariant.made (sym c.in-Some.ensures.value) c.in-Some.ensures.before
    (sym (ap is_class c.kind.ensures) ∙ sym c.is_class.ensures ∙ c.if-is_class.true) ∙ c.loop-p.invariant.same

pub loop-p-preserved : goal.loop-p-preserved
loop-p-preserved c = record {
  made = omega (arith, c.in-Some.ensures.before);
  same = in_class_on c.args.tree.now c.loop-p.below.0 c.in-Some.p.0 c.loop-p.invariant.made (sym c.in-Some.ensures.value) c.in-Some.ensures.before
      (sym (ap is_class c.kind.ensures) ∙ sym c.is_class.ensures ∙ c.if-is_class.false) ∙ c.loop-p.invariant.same;
}
