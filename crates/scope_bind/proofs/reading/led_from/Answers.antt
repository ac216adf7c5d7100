use Rattle.std.proofs.Common.{◌≡◌, ◌∙◌, ap}
use Rattle.scope_rules.specs.Reading.{answer_at, led_from}
use Rattle.scope_bind.proofs.reading.led_from.Goals as goal

pub returns : goal.returns
unfolding led_from
returns c =
    let t = c.args.tree.now in
    c.answer_at.ensures t c.args.own c.requires.declared c.requires.binders c.end_of-end.ensures ∙ ap (answer_at t c.args.own c.args.name.now) c.end_of-end.ensures.scope
