use Rattle.std.proofs.Common.{rules, ℕ, List, ◌++◌, ◌+◌, ◌≡◌, ◌<◌, sym, ap, subst, length, arith, length-append}
use Rattle.std.proofs.lemmas.List.{get_or_read}
use Rattle.infer_equations.specs.Seen.{Seen, solved}
use Rattle.infer_equations.specs.Assignment.{Map}
use Rattle.infer_equations.proofs.Reading.{keeps-refl, keeps-trans, kept_solved}
use Rattle.infer_reached.specs.InProgress.{InProgress}
use Rattle.infer_plain.specs.Sweep.{Swept, Looked}
use Rattle.infer_plain.proofs.Sweeps.{swept-none, swept-more}
use Rattle.infer_plain.proofs.plain.sweep.Goals as goal

pub loop-i-init : goal.loop-i-init
loop-i-init g c =
    let e = c.args.eqs.now in
    let old = c.args.view.now in
    record {
      keeps = keeps-refl old;
      swept = swept-none (g.E.Equations.count_of e) (g.E.Equations.limit_of e) (g.E.Equations.right e) (g.met.E.Equations.monotone e) (g.met.E.Equations.within e) (solved old) (old.work, c.args.run.now.items) c.requires;
    }

at_index : (xs ys more : List ℕ) (n i : ℕ) → ys ≡ xs ++ more → n ≡ length xs → i < n → i < length ys
at_index xs ys more n i e h l = let a = ap length e in omega (arith, length-append xs more)

pub look-requires-clause-progress : goal.look-requires-clause-progress
look-requires-clause-progress g c =
    let e = c.args.eqs.now in
    subst (λ (b : Map). InProgress (g.E.Equations.count_of e) (g.E.Equations.limit_of e) (g.E.Equations.right e) (b, c.loop-i.view.work) c.loop-i.run.items) (sym (kept_solved _ _ c.loop-i.invariant.keeps)) c.loop-i.invariant.swept.progress

pub look-requires-clause-known : goal.look-requires-clause-known
look-requires-clause-known g c =
    let n : c.len-i-end.result ≡ length c.args.run.now.items = search rules in
    (c.loop-i.i, at_index c.args.run.now.items c.loop-i.run.items c.loop-i.invariant.swept.more _ _ c.loop-i.invariant.swept.run n c.loop-i-test.true, sym c.index-var.ensures)

pub returns-in_err-rose-clause-keeps : goal.returns-in_err-rose-clause-keeps
returns-in_err-rose-clause-keeps g c = keeps-trans _ _ _ c.loop-i.invariant.keeps c.look.ensures.keeps

pub loop-i-preserved : goal.loop-i-preserved
loop-i-preserved g c =
    let e = c.args.eqs.now in
    let old = c.args.view.now in
    let n : c.len-i-end.result ≡ length c.args.run.now.items = search rules in
    let lt = at_index c.args.run.now.items c.loop-i.run.items c.loop-i.invariant.swept.more _ _ c.loop-i.invariant.swept.run n c.loop-i-test.true in
    record {
      keeps = keeps-trans _ _ _ c.loop-i.invariant.keeps c.look.ensures.keeps;
      swept =
          subst (λ x. Swept (g.E.Equations.count_of e) (g.E.Equations.limit_of e) (g.E.Equations.right e) (solved old) (old.work, c.args.run.now.items) (c.loop-i.i + 1) (c.look.new.view.work, c.look.new.run.items) x)
          (sym c.either_rose-changed.ensures)
          (swept-more (g.E.Equations.count_of e) (g.E.Equations.limit_of e) (g.E.Equations.right e) (g.met.E.Equations.monotone e) (g.met.E.Equations.within e) (solved old)
          (old.work, c.args.run.now.items) (c.loop-i.view.work, c.loop-i.run.items) (c.look.new.view.work, c.look.new.run.items) c.loop-i.i c.index-var.result.now c.in_ok-rose.rose c.loop-i.changed
          c.loop-i.invariant.swept (get_or_read c.loop-i.run.items c.loop-i.i c.index-var.result.now lt c.index-var.ensures 0)
          (subst (λ (b : Map). Looked (g.E.Equations.count_of e) (g.E.Equations.limit_of e) (g.E.Equations.right e) b (c.loop-i.view.work, c.loop-i.run.items) c.index-var.result.now (c.look.new.view.work, c.look.new.run.items) c.in_ok-rose.rose)
          (kept_solved _ _ c.loop-i.invariant.keeps) c.in_ok-rose.ensures.looked));
    }
