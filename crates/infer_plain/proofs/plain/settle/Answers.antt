use Rattle.std.proofs.Common.{ℕ, ◌-◌, ◌*◌, ◌+◌, ◌<◌, ◌≤◌, sym, subst, arith, length}
use Rattle.infer_equations.specs.Assignment.{Map}
use Rattle.infer_equations.specs.Seen.{solved}
use Rattle.infer_equations.proofs.Reading.{keeps-refl, keeps-trans, kept_solved}
use Rattle.infer_reached.specs.Tables.{tables}
use Rattle.infer_reached.specs.InProgress.{InProgress, HasSet, weight}
use Rattle.infer_reached.specs.Extension.{AllLeast}
use Rattle.infer_plain.specs.Sweep.{Swept}
use Rattle.infer_reached.proofs.Progress.{weight-most}
use Rattle.infer_plain.proofs.Sweeps.{swept-rises, swept-least}
use Rattle.infer_plain.proofs.plain.settle.Goals as goal

smaller : (n a b : ℕ) → a < b → b ≤ n → n - b < n - a
smaller n a b h k = omega arith

pub loop-init : goal.loop-init
loop-init g c = record { keeps = keeps-refl c.args.view.now; progress = c.requires.progress; known = c.requires.known }

pub loop-preserved : goal.loop-preserved
loop-preserved g c =
    let e = c.args.eqs.now in
    let same = sym (kept_solved _ _ c.sweep.ensures.keeps) in
    record {
      keeps = keeps-trans _ _ _ c.loop.invariant.keeps c.sweep.ensures.keeps;
      progress = subst (λ (b : Map). InProgress (g.E.Equations.count_of e) (g.E.Equations.limit_of e) (g.E.Equations.right e) (b, c.sweep.new.view.work) c.sweep.new.run.items) same c.in_ok-sweep.ensures.swept.progress;
      known = subst (λ (b : Map). HasSet (b, c.sweep.new.view.work) c.args.var) same (c.in_ok-sweep.ensures.swept.keeps c.args.var c.loop.invariant.known);
    }

pub loop-smaller : goal.loop-smaller
loop-smaller g c =
    let e = c.args.eqs.now in
    let b = solved c.loop.view in
    smaller _ _ _
    (subst (λ (m : Map). weight (g.E.Equations.count_of e) (g.E.Equations.limit_of e) (tables c.loop.view) < weight (g.E.Equations.count_of e) (g.E.Equations.limit_of e) (m, c.sweep.new.view.work)) (sym (kept_solved _ _ c.sweep.ensures.keeps))
    (swept-rises (g.E.Equations.count_of e) (g.E.Equations.limit_of e) (g.E.Equations.right e) (g.met.E.Equations.monotone e) (g.met.E.Equations.within e) b
    (c.loop.view.work, c.loop.run.items) (c.sweep.new.view.work, c.sweep.new.run.items) (length c.loop.run.items)
    (subst (λ x. Swept (g.E.Equations.count_of e) (g.E.Equations.limit_of e) (g.E.Equations.right e) b (c.loop.view.work, c.loop.run.items) (length c.loop.run.items) (c.sweep.new.view.work, c.sweep.new.run.items) x) c.if-branch.true c.in_ok-sweep.ensures.swept)))
    (subst (λ (m : Map). weight (g.E.Equations.count_of e) (g.E.Equations.limit_of e) (m, c.sweep.new.view.work) ≤ g.E.Equations.count_of e * (g.E.Equations.limit_of e + 2)) (sym (kept_solved _ _ c.sweep.ensures.keeps))
    (weight-most (g.E.Equations.count_of e) (g.E.Equations.limit_of e) (b, c.sweep.new.view.work) c.in_ok-sweep.ensures.swept.progress.fits))

pub returns-in_err-sweep-clause-keeps : goal.returns-in_err-sweep-clause-keeps
returns-in_err-sweep-clause-keeps g c = keeps-trans _ _ _ c.loop.invariant.keeps c.sweep.ensures.keeps

pub returns-clause-keeps : goal.returns-clause-keeps
returns-clause-keeps g c = keeps-trans _ _ _ c.loop.invariant.keeps c.sweep.ensures.keeps

pub returns-clause-known : goal.returns-clause-known
returns-clause-known g c =
    subst (λ (b : Map). HasSet (b, c.sweep.new.view.work) c.args.var) (sym (kept_solved _ _ c.sweep.ensures.keeps)) (c.in_ok-sweep.ensures.swept.keeps c.args.var c.loop.invariant.known)

pub returns-clause-least : goal.returns-clause-least
returns-clause-least g c =
    let e = c.args.eqs.now in
    let b = solved c.loop.view in
    subst (λ (m : Map). AllLeast (g.E.Equations.count_of e) (g.E.Equations.limit_of e) (g.E.Equations.right e) (m, c.sweep.new.view.work)) (sym (kept_solved _ _ c.sweep.ensures.keeps))
    (swept-least (g.E.Equations.count_of e) (g.E.Equations.limit_of e) (g.E.Equations.right e) (g.met.E.Equations.monotone e) (g.met.E.Equations.within e) b
    (c.loop.view.work, c.loop.run.items) (c.sweep.new.view.work, c.sweep.new.run.items)
    (subst (λ x. Swept (g.E.Equations.count_of e) (g.E.Equations.limit_of e) (g.E.Equations.right e) b (c.loop.view.work, c.loop.run.items) (length c.loop.run.items) (c.sweep.new.view.work, c.sweep.new.run.items) x) c.if-branch.false c.in_ok-sweep.ensures.swept))
