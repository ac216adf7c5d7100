use Rattle.std.proofs.Common.{◌≡◌, ◌∙◌, ap}
use Rattle.scope_rules.specs.Mangling.{read_at}
use Rattle.scope_bind.proofs.SpellLaws.{imported_some, imported_none}
use Rattle.scope_bind.proofs.spelling.first_part.Goals as goal

pub returns-in_ok-read_at-in-Some : goal.returns-in_ok-read_at-in-Some
returns-in_ok-read_at-in-Some c =
    let t = c.args.tree.now in
    imported_some t c.args.n.0 c.in-Some.name.now c.in_ok-read_at-in-Some.field-0 c.in-Some.ensures (c.in_ok-read_at-in-Some.ensures ∙ ap (read_at t c.args.n.0) c.before_dot.ensures)

pub returns-in-None : goal.returns-in-None
returns-in-None c = imported_none c.args.tree.now c.args.n.0 c.in-None.ensures
