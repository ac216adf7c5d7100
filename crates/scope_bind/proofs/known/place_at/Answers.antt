use Rattle.std.proofs.Common.{◌≡◌, ◌∙◌, sym, arith, length}
use Rattle.scope_bind.proofs.ListLaws.{list_length, list_get}
use Rattle.scope_rules.specs.Places.{around}
use Rattle.scope_rules.proofs.Nesting.{around-le}
use Rattle.scope_bind.proofs.known.place_at.Goals as goal

pub bounds-places-n : goal.bounds-places-n
bounds-places-n c = omega (arith, list_length (around c.args.tree.now) _ c.args.places.now c.requires.places, c.requires.made)

pub returns-clause-value : goal.returns-clause-value
returns-clause-value c = list_get (around c.args.tree.now) _ c.args.places.now c.args.n.0 0 c.requires.places c.requires.made

pub returns-clause-within : goal.returns-clause-within
returns-clause-within c =
    let e = list_get (around c.args.tree.now) _ c.args.places.now c.args.n.0 0 c.requires.places c.requires.made in
    omega (arith, e, around-le c.args.tree.now c.args.n.0 c.requires.made, c.requires.made)
