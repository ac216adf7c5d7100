use Rattle.std.proofs.Common.{◌≡◌, refl, sym, ◌∙◌, ap, subst}
use Rattle.std.specs.Prelude.{Err}
use Rattle.std.specs.List.{Contains}
use Rattle.std.specs.FinMap.{get}
use Rattle.infer_equations.specs.Assignment.{Map, overlaid}
use Rattle.infer_equations.specs.Seen.{solved}
use Rattle.infer_equations.specs.Least.{least}
use Rattle.infer_equations.proofs.Reading.{kept_solved}
use Rattle.infer_core.specs.Solving.{Solving, IsSolving}
use Rattle.infer_core.specs.Demand.{IsDemanded}
use Rattle.infer_core.proofs.Demands.{least_before, missing_found, run_apart, solving_after, solving_same, demanded_after, demanded_base, demanded_same, ok_from, err_from}
use Rattle.infer_core.proofs.solver.Solver.solve.Goals as goal

pub work_through-requires-clause-right : goal.work_through-requires-clause-right
work_through-requires-clause-right g c =
    let s = c.self.inside in
    least_before (g.E.Equations.count_of s.eqs.now) (g.E.Equations.limit_of s.eqs.now) (g.E.Equations.right s.eqs.now) (g.E.Equations.reads s.eqs.now) s.view.base s.view.own _ _
    c.self.invariant.base_right c.self.invariant.solved_right (kept_solved _ _ c.give_up.ensures.keeps) c.give_up.ensures.none

pub work_through-requires-clause-missing : goal.work_through-requires-clause-missing
work_through-requires-clause-missing g c =
    let s = c.self.inside in
    missing_found _ _ (overlaid s.view.base s.view.own) c.args.var (kept_solved _ _ c.give_up.ensures.keeps) c.give_up.ensures.none
    (ap (λ (q : Solving _). get (overlaid q.base q.solved) c.args.var) c.self.view_is ∙ c.requires.missing)

pub settle-requires-clause-apart : goal.settle-requires-clause-apart
settle-requires-clause-apart g c =
    let s = c.self.inside in
    λ v d. ap (λ m. get m v) (c.work_through.ensures.kept.own ∙ c.give_up.ensures.keeps.own)
    ∙ run_apart (g.E.Equations.count_of s.eqs.now) (g.E.Equations.limit_of s.eqs.now) (g.E.Equations.right s.eqs.now) (g.E.Equations.reads s.eqs.now) s.view.base s.view.own (solved c.give_up.new.self) c.work_through.new.view.work c.args.var c.in-Ok.reached.items
    (kept_solved _ _ c.give_up.ensures.keeps) c.in-Ok.ensures.listed v (subst (λ xs. Contains xs v) c.deref.ensures.value d)

pub invariant_of-self : goal.invariant_of-self
invariant_of-self g c =
    let s = c.self.inside in
    solving_same (g.E.Equations.count_of s.eqs.now) (g.E.Equations.limit_of s.eqs.now) (g.E.Equations.right s.eqs.now) s.view.base s.view.own c.work_through.new.view.base c.work_through.new.view.own
    (c.work_through.ensures.kept.base ∙ c.give_up.ensures.keeps.base) (c.work_through.ensures.kept.own ∙ c.give_up.ensures.keeps.own) c.self.invariant

pub returns-in-Err : goal.returns-in-Err
returns-in-Err g c =
    let s = c.self.inside in
    subst (λ (q : Solving _). IsDemanded (g.E.Equations.limit_of q.equations) (least (g.E.Equations.count_of q.equations) (g.E.Equations.limit_of q.equations) (g.E.Equations.right q.equations)) (g.E.Equations.reads q.equations) q (record { equations = s.eqs.now; base = c.work_through.new.view.base; solved = c.work_through.new.view.own }) c.args.var c.args.steps.now c.work_through.new.steps (Err c.in-Err.refused)) c.self.view_is
    (demanded_same (g.E.Equations.count_of s.eqs.now) (g.E.Equations.limit_of s.eqs.now) (g.E.Equations.right s.eqs.now) (g.E.Equations.reads s.eqs.now) s.eqs.now _ s.view.base s.view.own c.work_through.new.view.base c.work_through.new.view.own (solved c.give_up.new.self) c.args.var _ _
    (c.work_through.ensures.kept.base ∙ c.give_up.ensures.keeps.base) (c.work_through.ensures.kept.own ∙ c.give_up.ensures.keeps.own)
    (kept_solved _ _ c.give_up.ensures.keeps) (ap (λ (q : Solving _). get (overlaid q.base q.solved) c.args.var) c.self.view_is ∙ c.requires.missing) c.in-Err.ensures.cost_err)

pub invariant_of-self-in-Ok : goal.invariant_of-self-in-Ok
invariant_of-self-in-Ok g c =
    let s = c.self.inside in
    let own = c.work_through.ensures.kept.own ∙ c.give_up.ensures.keeps.own in
    solving_same (g.E.Equations.count_of s.eqs.now) (g.E.Equations.limit_of s.eqs.now) (g.E.Equations.right s.eqs.now) s.view.base c.settle.new.self.own c.settle.new.self.base c.settle.new.self.own
    (c.settle.ensures.base ∙ c.work_through.ensures.kept.base ∙ c.give_up.ensures.keeps.base) refl
    (solving_after (g.E.Equations.count_of s.eqs.now) (g.E.Equations.limit_of s.eqs.now) (g.E.Equations.right s.eqs.now) (g.E.Equations.reads s.eqs.now) s.view.base s.view.own (solved c.give_up.new.self) c.work_through.new.view.work c.args.var c.in-Ok.reached.items
    (kept_solved _ _ c.give_up.ensures.keeps) c.in-Ok.ensures.listed c.settle.result c.settle.new.self.own c.in-Ok.ensures.least c.in-Ok.ensures.supported c.self.invariant
    (ok_from c.settle.result _ _ _ _ own c.settle.ensures.ok) (err_from c.settle.result _ _ _ own c.settle.ensures.err))

pub returns-in-Ok : goal.returns-in-Ok
returns-in-Ok g c =
    let s = c.self.inside in
    let own = c.work_through.ensures.kept.own ∙ c.give_up.ensures.keeps.own in
    subst (λ (q : Solving _). IsDemanded (g.E.Equations.limit_of q.equations) (least (g.E.Equations.count_of q.equations) (g.E.Equations.limit_of q.equations) (g.E.Equations.right q.equations)) (g.E.Equations.reads q.equations) q (record { equations = s.eqs.now; base = c.settle.new.self.base; solved = c.settle.new.self.own }) c.args.var c.args.steps.now c.work_through.new.steps c.settle.result) c.self.view_is
    (demanded_base (g.E.Equations.limit_of s.eqs.now) (least (g.E.Equations.count_of s.eqs.now) (g.E.Equations.limit_of s.eqs.now) (g.E.Equations.right s.eqs.now)) (g.E.Equations.reads s.eqs.now) (record { equations = s.eqs.now; base = s.view.base; solved = s.view.own }) s.eqs.now s.view.base c.settle.new.self.base c.settle.new.self.own c.args.var _ _ c.settle.result
    (c.settle.ensures.base ∙ c.work_through.ensures.kept.base ∙ c.give_up.ensures.keeps.base)
    (demanded_after (g.E.Equations.count_of s.eqs.now) (g.E.Equations.limit_of s.eqs.now) (g.E.Equations.right s.eqs.now) (g.E.Equations.reads s.eqs.now) s.view.base s.view.own (solved c.give_up.new.self) c.work_through.new.view.work c.args.var c.in-Ok.reached.items
    (kept_solved _ _ c.give_up.ensures.keeps) c.in-Ok.ensures.listed s.eqs.now c.settle.result c.settle.new.self.own _ _ (ap (λ (q : Solving _). get (overlaid q.base q.solved) c.args.var) c.self.view_is ∙ c.requires.missing) c.in-Ok.ensures.has
    (ok_from c.settle.result _ _ _ _ own c.settle.ensures.ok) (err_from c.settle.result _ _ _ own c.settle.ensures.err) c.in-Ok.ensures.cost))
