use Rattle.std.proofs.Common.{sym, ◌∙◌}
use Rattle.infer_sets.proofs.Growth.{numbered-old}
use Rattle.infer_sets.proofs.Layers.{insert-old}
use Rattle.infer_sets.proofs.set_layer.SetLayer.join.Goals as goal

pub returns-in-Some-clause-ok : goal.returns-in-Some-clause-ok
returns-in-Some-clause-ok c = numbered-old c.args.self.now.sets _ c.in-Some.remembered c.in-Some.ensures.right

pub returns-in-Some-clause-joins : goal.returns-in-Some-clause-joins
returns-in-Some-clause-joins c = insert-old c.args.self.now.joins (c.args.a, c.args.b, c.args.limit) c.in-Some.remembered (sym c.joined.ensures.value ∙ c.in-Some.is)
