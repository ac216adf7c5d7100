use Rattle.std.proofs.Common.{◌≡◌, ◌<◌, sym, ◌∙◌, arith, length}
use Rattle.scope_rules.specs.declared.step.Step.TheVariants.{Within, Beside}
use Rattle.scope_rules.specs.Places.{step, around}
use Rattle.scope_bind.proofs.ListLaws.{list_length, list_get}
use Rattle.scope_bind.proofs.PlaceLaws.{place_within, place_beside, beside_before}
use Rattle.scope_bind.proofs.places.place_of.Goals as goal

pub bounds-places-m : goal.bounds-places-m
bounds-places-m c =
    let e : step c.args.tree.now c.args.n.0 ≡ Beside c.in-Beside.m = sym c.step.ensures ∙ c.in-Beside.is in
    let low = beside_before c.args.tree.now c.args.n.0 c.in-Beside.m c.requires.made e in
    omega (arith, list_length (around c.args.tree.now) c.args.n.0 c.args.places.now c.requires.before)

pub returns-in-Within : goal.returns-in-Within
returns-in-Within c = place_within c.args.tree.now c.args.n.0 c.in-Within.s c.requires.made (sym c.step.ensures ∙ c.in-Within.is)

pub returns-in-Beside : goal.returns-in-Beside
returns-in-Beside c =
    let e : step c.args.tree.now c.args.n.0 ≡ Beside c.in-Beside.m = sym c.step.ensures ∙ c.in-Beside.is in
    let low = beside_before c.args.tree.now c.args.n.0 c.in-Beside.m c.requires.made e in
    list_get (around c.args.tree.now) c.args.n.0 c.args.places.now c.in-Beside.m 0 c.requires.before low ∙ place_beside c.args.tree.now c.args.n.0 c.in-Beside.m c.requires.made e
