use Rattle.std.proofs.Common.{rules, ◌≡◌, sym, ◌∙◌, ap}
use Rattle.std.specs.Prelude.{is_some}
use Rattle.std.specs.FinMap.{get}
use Rattle.infer_equations.specs.Assignment.{overlaid}
use Rattle.infer_equations.specs.Seen.{Seen, sets}
use Rattle.infer_equations.proofs.Valued.{some-valued}
use Rattle.infer_equations.proofs.Shown.{sets-valued}
use Rattle.infer_equations.proofs.view.View.has.Goals as goal

pub returns : goal.returns
returns c =
    let s = c.self.inside in
    let here : c.is_some.result ≡ is_some c.find_first.result = search rules in
    here ∙ ap is_some c.find_first.ensures ∙ sym (some-valued s.layer.sets (overlaid (overlaid s.base.now s.own) s.work) c.args.var)
    ∙ ap (λ m. is_some (get m c.args.var)) (sets-valued s.layer.sets s.base.now s.own s.work) ∙ ap (λ (w : Seen). is_some (get (sets w) c.args.var)) c.self.view_is
