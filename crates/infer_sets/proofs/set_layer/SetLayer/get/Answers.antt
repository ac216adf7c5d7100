use Rattle.std.proofs.Common.{rules, sym, ◌∙◌, ap}
use Rattle.infer_sets.specs.Numbers.{set_at}
use Rattle.infer_sets.specs.Joins.{Layer}
use Rattle.infer_sets.proofs.Growth.{number-kept}
use Rattle.infer_sets.proofs.Layers.{get-behind}
use Rattle.infer_sets.proofs.set_layer.SetLayer.get.Goals as goal

pub returns-then-id-first : goal.returns-then-id-first
returns-then-id-first c =
    c.get.ensures ∙ sym (number-kept c.self.inside.base.now c.self.inside.own c.args.id (search rules)) ∙ ap (λ (l : Layer). set_at l.sets c.args.id) c.self.view_is

pub returns : goal.returns
returns c =
    get-behind c.self.inside.base.now c.self.inside.own c.len-first.result c.args.id _ c.len-first.ensures (search rules) c.get-2.ensures ∙ ap (λ (l : Layer). set_at l.sets c.args.id) c.self.view_is
