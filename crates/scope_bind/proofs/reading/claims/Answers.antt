use Rattle.std.proofs.Common.{◌≡◌, ◌∙◌, ap, Bool, ◌||◌}
use Rattle.scope_rules.specs.Declaring.{declares_global, has}
use Rattle.scope_bind.proofs.reading.claims.Goals as goal

pub returns : goal.returns
returns c = λ t h.
    c.either.ensures ∙ ap (λ (v : Bool). v || c.has-is_had.result) (c.declares_global-is_global.ensures t h) ∙ ap (λ (v : Bool). declares_global t c.args.s c.args.name.now || v) (c.has-is_had.ensures t h)
