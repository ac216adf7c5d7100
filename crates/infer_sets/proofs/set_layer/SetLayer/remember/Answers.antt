use Rattle.std.proofs.Common.{◌<◌, ◌++◌, length, refl, sym, ◌∙◌, ap, subst}
use Rattle.std.specs.FinMap as map
use Rattle.infer_sets.specs.Sets.{joined}
use Rattle.infer_sets.specs.Numbers.{set_at, IsNumber}
use Rattle.infer_sets.specs.Joins.{Layer, AreJoined}
use Rattle.infer_sets.proofs.Layers.{joins-insert, joined-insert}
use Rattle.infer_sets.proofs.set_layer.SetLayer.remember.Goals as goal

pub invariant_of-self-2 : goal.invariant_of-self-2
invariant_of-self-2 c =
    let xs = c.self.inside.base.now ++ c.self.inside.own in
    let sets = ap (λ (l : Layer). l.sets) (sym c.self.view_is) in (
      c.self.invariant.0,
      subst (AreJoined xs) (sym (joins-insert c.self.inside.joins.entries _ (c.args.a, c.args.b, c.args.limit) c.args.id c.in_ok-insert.ensures.updates.0))
          (joined-insert xs _ c.args.a c.args.b c.args.limit c.args.id (subst (λ ys. c.args.a < length ys) sets c.requires.first) (subst (λ ys. c.args.b < length ys) sets c.requires.second)
          (subst (λ ys. IsNumber ys c.args.id (joined c.args.limit (set_at ys c.args.a) (set_at ys c.args.b))) sets c.requires.right) c.self.invariant.1),
    )

pub returns-clause-ok : goal.returns-clause-ok
returns-clause-ok c =
    (refl, joins-insert c.self.inside.joins.entries _ (c.args.a, c.args.b, c.args.limit) c.args.id c.in_ok-insert.ensures.updates.0 ∙ ap (λ (l : Layer). map.insert l.joins (c.args.a, c.args.b, c.args.limit) c.args.id) c.self.view_is)
