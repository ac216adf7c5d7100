use Rattle.std.proofs.Common.{sym, ◌∙◌, ap}
use Rattle.std.specs.Prelude.{option_map, IfSome, length, ◌<◌}
use Rattle.std.specs.FinMap.{get}
use Rattle.infer_sets.specs.Numbers.{set_at}
use Rattle.infer_equations.specs.Seen.{Seen}
use Rattle.infer_equations.proofs.Valued.{get-valued}
use Rattle.infer_equations.proofs.view.View.in_progress.Goals as goal

pub returns-clause-value : goal.returns-clause-value
returns-clause-value c =
    let s = c.self.inside in
    ap (λ (w : Seen). option_map (set_at w.numbers) c.find.result) (sym c.self.view_is) ∙ ap (option_map (set_at s.layer.sets)) c.find.ensures
    ∙ sym (get-valued s.layer.sets s.work c.args.var) ∙ ap (λ (w : Seen). get w.work c.args.var) c.self.view_is
