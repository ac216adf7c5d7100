use Rattle.std.proofs.Common.{sym, ap, subst}
use Rattle.std.specs.Prelude.{length, ◌<◌}
use Rattle.infer_sets.specs.Numbers.{set_at}
use Rattle.infer_sets.proofs.Growth.{grew-refl}
use Rattle.infer_equations.specs.Seen.{Seen}
use Rattle.infer_equations.proofs.Shown.{put-given, put-ok}
use Rattle.infer_equations.proofs.view.View.put.Goals as goal

pub invariant_of-self : goal.invariant_of-self
invariant_of-self c = put-given c.put.result _ _ _ _ _ c.args.var c.args.id (subst (λ (w : Seen). c.args.id < length w.numbers) (sym c.self.view_is) c.requires) c.put.ensures.ok c.put.ensures.err c.self.invariant

pub returns-clause-ok : goal.returns-clause-ok
returns-clause-ok c =
    put-ok c.put.result _ _ _ _ _ _ _ _ c.self.view_is (grew-refl c.self.inside.layer.sets) c.self.invariant c.args.var c.args.id _ (ap (λ (w : Seen). set_at w.numbers c.args.id) (sym c.self.view_is)) c.put.ensures.ok
