use Rattle.std.proofs.Common.{◌≡◌, ◌∙◌, sym, ap, arith, length, ℕ, None, Option, get_or, List}
use Rattle.std.proofs.lemmas.Bool.{eqb-true, eqb-false}
use Rattle.scope_rules.specs.Places.{around}
use Rattle.scope_rules.specs.Kinds.{is_class}
use Rattle.scope_rules.specs.Mangling.{class_from}
use Rattle.scope_rules.proofs.Nesting.{around-before}
use Rattle.scope_bind.proofs.ListLaws.{list_length, list_get}
use Rattle.scope_bind.proofs.PlaceLaws.{class_itself, class_module, class_outwards}
use Rattle.scope_bind.proofs.classes.class_of.Goals as goal

pub bounds-places-s : goal.bounds-places-s
bounds-places-s c = omega (arith, list_length (around c.args.tree.now) _ c.args.places.now c.requires.places, c.requires.made)

pub bounds-classes-place : goal.bounds-classes-place
bounds-classes-place c =
    let place = list_get (around c.args.tree.now) _ c.args.places.now c.args.s 0 c.requires.places c.requires.made in
    let before = around-before c.args.tree.now c.args.s c.requires.made (omega (arith, c.if-s-eq0.false)) in
    omega (arith, place, before, list_length (class_from c.args.tree.now) c.args.s c.args.classes.now c.requires.before)

pub returns-then-is_class : goal.returns-then-is_class
returns-then-is_class c = class_itself c.args.tree.now c.args.s c.requires.made (sym (ap is_class c.kind.ensures) ∙ sym c.is_class.ensures ∙ c.if-is_class.true)

pub returns-then-s-eq0 : goal.returns-then-s-eq0
returns-then-s-eq0 c = class_module c.args.tree.now c.args.s c.if-s-eq0.true (sym (ap is_class c.kind.ensures) ∙ sym c.is_class.ensures ∙ c.if-is_class.false)

pub returns-else-s-eq0 : goal.returns-else-s-eq0
returns-else-s-eq0 c =
    let place = list_get (around c.args.tree.now) _ c.args.places.now c.args.s 0 c.requires.places c.requires.made in
    let before = around-before c.args.tree.now c.args.s c.requires.made (omega (arith, c.if-s-eq0.false)) in
    ap (λ (p : ℕ). get_or c.args.classes.now p None) place
    ∙ list_get (class_from c.args.tree.now) c.args.s c.args.classes.now (around c.args.tree.now c.args.s) None c.requires.before before
    ∙ class_outwards c.args.tree.now c.args.s c.requires.made (omega (arith, c.if-s-eq0.false)) (sym (ap is_class c.kind.ensures) ∙ sym c.is_class.ensures ∙ c.if-is_class.false)
