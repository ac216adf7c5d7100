use Rattle.std.proofs.Common.{◌≡◌, sym, ◌∙◌, ap, subst}
use Rattle.std.proofs.lemmas.Result.{IfOk-weaker}
use Rattle.std.specs.Ordering.{nat_cmp}
use Rattle.std.specs.FinMap.{get, get-empty}
use Rattle.infer_equations.specs.Assignment.{Map}
use Rattle.infer_equations.specs.Seen.{solved}
use Rattle.infer_equations.proofs.Overlay.{overlaid-empty}
use Rattle.infer_equations.proofs.Reading.{kept_solved}
use Rattle.infer_reached.specs.InProgress.{InProgress, HasSet}
use Rattle.infer_reached.proofs.Extension.{first_progress, first_has}
use Rattle.infer_plain.proofs.plain.Plain.solve.Goals as goal

pub settle-requires-clause-progress : goal.settle-requires-clause-progress
settle-requires-clause-progress g c =
    let e = c.args.eqs.now in
    let first = c.over-view.result in
    let base = overlaid-empty _ _ (c.over-view.ensures.base ∙ c.new-none.ensures) c.over-view.ensures.own in
    subst (λ (b : Map). InProgress (g.E.Equations.count_of e) (g.E.Equations.limit_of e) (g.E.Equations.right e) (b, c.add_one.new.view.work) c.add_one.new.run.items) (sym (kept_solved _ _ c.add_one.ensures.keeps))
    (first_progress (g.E.Equations.count_of e) (g.E.Equations.limit_of e) (g.E.Equations.right e) (g.met.E.Equations.monotone e) (g.met.E.Equations.within e)
    (solved first) first.work c.new-run.result.items c.args.var (c.add_one.new.view.work, c.add_one.new.run.items) base c.over-view.ensures.work c.new-run.ensures.items c.in_ok-add_one.ensures.added c.requires)

pub settle-requires-clause-known : goal.settle-requires-clause-known
settle-requires-clause-known g c =
    let e = c.args.eqs.now in
    let first = c.over-view.result in
    let base = overlaid-empty _ _ (c.over-view.ensures.base ∙ c.new-none.ensures) c.over-view.ensures.own in
    subst (λ (b : Map). HasSet (b, c.add_one.new.view.work) c.args.var) (sym (kept_solved _ _ c.add_one.ensures.keeps))
    (first_has (g.E.Equations.count_of e) (g.E.Equations.limit_of e) (g.E.Equations.right e) (g.met.E.Equations.monotone e) (g.met.E.Equations.within e)
    (solved first) first.work c.new-run.result.items c.args.var (c.add_one.new.view.work, c.add_one.new.run.items) base c.over-view.ensures.work c.new-run.ensures.items c.in_ok-add_one.ensures.added c.requires)

pub copy_of-requires-clause-none : goal.copy_of-requires-clause-none
copy_of-requires-clause-none g c =
    ap (λ m. get m c.args.var) (kept_solved _ _ c.settle.ensures.keeps ∙ kept_solved _ _ c.add_one.ensures.keeps ∙ overlaid-empty _ _ (c.over-view.ensures.base ∙ c.new-none.ensures) c.over-view.ensures.own)
    ∙ get-empty nat_cmp c.args.var

pub returns : goal.returns
returns g c = IfOk-weaker c.copy_of.result _ _ (λ s h. c.in_ok-settle.ensures.least.at c.args.var s h) c.copy_of.ensures
