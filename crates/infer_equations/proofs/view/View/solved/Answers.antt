use Rattle.std.proofs.Common.{sym, ◌∙◌, ap}
use Rattle.std.specs.FinMap.{get}
use Rattle.infer_equations.specs.Assignment.{overlaid}
use Rattle.infer_equations.specs.Seen.{Seen, solved}
use Rattle.infer_equations.proofs.Valued.{find_valued, find_none, valued-overlaid, given-overlaid}
use Rattle.infer_equations.proofs.view.View.solved.Goals as goal

pub get-requires : goal.get-requires
get-requires c =
    let s = c.self.inside in
    (given-overlaid s.layer.sets s.base.now s.own c.self.invariant.0 c.self.invariant.1).at c.args.var c.in-Some.id (sym c.in-Some.ensures)

pub returns-in-Some : goal.returns-in-Some
returns-in-Some c =
    let s = c.self.inside in
    find_valued s.layer.sets (overlaid s.base.now s.own) c.args.var _ c.in-Some.id c.in-Some.ensures c.get.ensures
    ∙ ap (λ m. get m c.args.var) (valued-overlaid s.layer.sets s.base.now s.own) ∙ ap (λ (w : Seen). get (solved w) c.args.var) c.self.view_is

pub returns-in-None : goal.returns-in-None
returns-in-None c =
    let s = c.self.inside in
    find_none s.layer.sets (overlaid s.base.now s.own) c.args.var c.in-None.ensures
    ∙ ap (λ m. get m c.args.var) (valued-overlaid s.layer.sets s.base.now s.own) ∙ ap (λ (w : Seen). get (solved w) c.args.var) c.self.view_is
