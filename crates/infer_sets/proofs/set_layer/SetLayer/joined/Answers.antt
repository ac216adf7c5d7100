use Rattle.std.proofs.Common.{◌∙◌, ap, subst}
use Rattle.std.specs.Prelude.{IfSome}
use Rattle.std.specs.FinMap as map
use Rattle.infer_sets.specs.Sets.{joined}
use Rattle.infer_sets.specs.Numbers.{IsNumber, set_at}
use Rattle.infer_sets.specs.Joins.{Layer}
use Rattle.infer_sets.proofs.Layers.{joins-get, joined-right}
use Rattle.infer_sets.proofs.set_layer.SetLayer.joined.Goals as goal

pub returns-clause-value : goal.returns-clause-value
returns-clause-value c =
    c.copied.ensures ∙ c.get.ensures.value ∙ joins-get c.self.inside.joins.entries (c.args.a, c.args.b, c.args.limit) ∙ ap (λ (l : Layer). map.get l.joins (c.args.a, c.args.b, c.args.limit)) c.self.view_is

pub returns-clause-right : goal.returns-clause-right
returns-clause-right c =
    subst (λ (l : Layer). IfSome c.copied.result (λ id. IsNumber l.sets id (joined c.args.limit (set_at l.sets c.args.a) (set_at l.sets c.args.b)))) c.self.view_is
    (joined-right _ _ c.copied.result c.args.a c.args.b c.args.limit c.self.invariant.1 (c.copied.ensures ∙ c.get.ensures.value ∙ joins-get c.self.inside.joins.entries (c.args.a, c.args.b, c.args.limit)))
