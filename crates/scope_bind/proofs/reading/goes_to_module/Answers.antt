use Rattle.std.proofs.Common.{◌≡◌, ◌∙◌, ap, Bool, ◌||◌, eqb}
use Rattle.scope_bind.proofs.reading.goes_to_module.Goals as goal

pub returns : goal.returns
returns c = λ t h. c.either.ensures ∙ ap (λ (v : Bool). eqb c.args.s 0 || v) (c.declares_global-is_global.ensures t h)
