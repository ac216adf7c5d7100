use Rattle.std.proofs.Common.{◌≡◌, ◌<◌, ◌≤◌, sym, ap, ◌∙◌, arith}
use Rattle.scope_rules.specs.declared.step.Step.TheVariants.{Within, Beside}
use Rattle.scope_rules.specs.Kinds.{is_class}
use Rattle.scope_rules.specs.Nodes.{kind_of}
use Rattle.scope_rules.specs.Places.{step}
use Rattle.call_binding.proofs.PlaceLaws.{class_beside, beside_before, within_before, within_made, class_within, class_none, class_beyond}
use Rattle.call_binding.proofs.places.+class_around.Goals as goal

pub class_around-requires : goal.class_around-requires
class_around-requires t c =
    let low = beside_before c.args.tree.now c.args.n.0 c.in-Beside.m c.requires (sym c.step.ensures ∙ c.in-Beside.is) in
    (omega arith, omega arith)

pub kind-requires : goal.kind-requires
kind-requires t c = within_made c.args.tree.now c.args.n.0 c.in-Within.s c.requires (sym c.step.ensures ∙ c.in-Within.is)

pub class_around-requires-else-s-eq0 : goal.class_around-requires-else-s-eq0
class_around-requires-else-s-eq0 t c =
    let low = within_before c.args.tree.now c.args.n.0 c.in-Within.s c.requires (sym c.step.ensures ∙ c.in-Within.is) (omega (arith, c.if-s-eq0.false)) in
    (omega arith, omega arith)

pub returns-in-Beside : goal.returns-in-Beside
returns-in-Beside t c = record {
  value = c.class_around.ensures.value ∙ class_beside c.args.tree.now c.args.n.0 c.in-Beside.m c.requires (sym c.step.ensures ∙ c.in-Beside.is);
  made = c.class_around.ensures.made;
}

pub returns-then-is_class : goal.returns-then-is_class
returns-then-is_class t c = record {
  value = class_within c.args.tree.now c.args.n.0 c.in-Within.s c.requires (sym c.step.ensures ∙ c.in-Within.is) (sym (ap is_class c.kind.ensures) ∙ sym c.is_class.ensures ∙ c.if-is_class.true);
  made = within_made c.args.tree.now c.args.n.0 c.in-Within.s c.requires (sym c.step.ensures ∙ c.in-Within.is);
}

pub returns-then-s-eq0 : goal.returns-then-s-eq0
returns-then-s-eq0 t c = record {
  value = class_none c.args.tree.now c.args.n.0 c.in-Within.s c.requires (sym c.step.ensures ∙ c.in-Within.is) (sym (ap is_class c.kind.ensures) ∙ sym c.is_class.ensures ∙ c.if-is_class.false) c.if-s-eq0.true;
  made = tt;
}

pub returns-else-s-eq0 : goal.returns-else-s-eq0
returns-else-s-eq0 t c = record {
  value = c.class_around-else-s-eq0.ensures.value ∙ class_beyond c.args.tree.now c.args.n.0 c.in-Within.s c.requires (sym c.step.ensures ∙ c.in-Within.is) (sym (ap is_class c.kind.ensures) ∙ sym c.is_class.ensures ∙ c.if-is_class.false) (omega (arith, c.if-s-eq0.false));
  made = c.class_around-else-s-eq0.ensures.made;
}
