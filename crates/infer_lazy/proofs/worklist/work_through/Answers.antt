use Rattle.std.proofs.Common.{rules, ◌≡◌, ℕ, sym, ◌+◌, ◌-◌, ◌<◌, ◌≤◌, ◌∷◌, ◌++◌, [], ◌∙◌, ap, subst, length, arith}
use Rattle.std.specs.Prelude.{IsSome}
use Rattle.std.specs.FinMap.{get}
use Rattle.std.proofs.lemmas.List.{nil_from_length}
use Rattle.infer_equations.specs.Assignment.{Map}
use Rattle.infer_equations.specs.Seen.{solved}
use Rattle.infer_equations.proofs.Reading.{keeps-trans, kept_solved}
use Rattle.infer_reached.specs.InProgress.{HasSet}
use Rattle.infer_lazy.specs.Waiting.{with_places}
use Rattle.infer_lazy.specs.Worklist.{Lazy, credit}
use Rattle.infer_lazy.proofs.Steps.{lazy-first, lazy-first_has, lazy-first_cost, lazy_done, credit-few, credit-bound, run_lacking, run_listed, run_stored, lazy_supported, taken, on_err}
use Rattle.infer_lazy.proofs.worklist.work_through.Goals as goal

pub loop-place-init : goal.loop-place-init
loop-place-init g c =
    let e = c.args.eqs.now in
    let waits : c.add.new.self ≡ 0 ∷ [] = c.in_ok-add.ensures ∙ ap (λ xs. with_places xs (0 ∷ [])) c.new-waiting.ensures in
    record {
      kept = c.add_one.ensures.keeps;
      lazy = lazy-first (g.E.Equations.count_of e) (g.E.Equations.limit_of e) (g.E.Equations.right e) (g.E.Equations.reads e) (g.met.E.Equations.monotone e) (g.met.E.Equations.within e) (solved c.args.view.now) c.args.view.now.work c.new-run.result.items c.args.start (c.add_one.new.view.work, c.add_one.new.run.items) c.add.new.self c.new-pairs.result
          c.requires.empty c.new-run.ensures.items c.requires.right c.requires.start_in c.requires.missing c.in_ok-add_one.ensures.added waits c.new-pairs.ensures;
      has = lazy-first_has (g.E.Equations.count_of e) (g.E.Equations.limit_of e) (g.E.Equations.right e) (g.E.Equations.reads e) (g.met.E.Equations.monotone e) (g.met.E.Equations.within e) (solved c.args.view.now) c.args.view.now.work c.new-run.result.items c.args.start (c.add_one.new.view.work, c.add_one.new.run.items) c.requires.missing c.in_ok-add_one.ensures.added;
      cost = lazy-first_cost (g.E.Equations.count_of e) (g.E.Equations.limit_of e) (g.E.Equations.right e) (g.E.Equations.reads e) (g.met.E.Equations.monotone e) (g.met.E.Equations.within e) (solved c.args.view.now) c.args.view.now.work c.new-run.result.items c.args.start (c.add_one.new.view.work, c.add_one.new.run.items) c.add.new.self c.new-pairs.result ((solved c.args.view.now), c.add_one.new.view.work)
          c.requires.missing c.in_ok-add_one.ensures.added waits c.args.steps.now;
    }

falls : (from most credit n rest waits m : ℕ) → n + waits ≤ from + credit → waits ≡ rest + 1 → credit ≤ most → m ≡ n + 1 → (from + most) - m < (from + most) - n
falls from most credit n rest waits m h w k e = omega arith

costs : (from credit n rest waits m : ℕ) → n + waits ≤ from + credit → waits ≡ rest + 1 → m ≡ n + 1 → m ≤ from + credit
costs from credit n rest waits m h w e = omega arith

at_end : (from credit n waits : ℕ) → n + waits ≤ from + credit → n ≤ from + credit
at_end from credit n waits h = omega arith

pub loop-place-smaller : goal.loop-place-smaller
loop-place-smaller g c =
    let e = c.args.eqs.now in
    falls _ _ _ _ (length c.take.new.self) _ _ c.loop-place.invariant.cost (taken _ _ c.in-Some.place c.in-Some.ensures.taken)
    (credit-bound (g.E.Equations.count_of e) (g.E.Equations.limit_of e) (g.E.Equations.right e) (g.E.Equations.reads e) (g.met.E.Equations.monotone e) (g.met.E.Equations.within e) (solved c.args.view.now) (c.args.start ∷ []) c.loop-place.view.work c.loop-place.run.items c.loop-place.waiting c.loop-place.pairs c.loop-place.invariant.lazy)
    c.in_ok-step_one.ensures.step

pub returns-in_err-step_one-clause-cost_err : goal.returns-in_err-step_one-clause-cost_err
returns-in_err-step_one-clause-cost_err g c =
    let e = c.args.eqs.now in
    on_err c.from_residual-in_err-step_one.result _
    (credit-few (g.E.Equations.count_of e) (g.E.Equations.limit_of e) (g.E.Equations.right e) (g.E.Equations.reads e) (g.met.E.Equations.monotone e) (g.met.E.Equations.within e) (solved c.args.view.now) (c.args.start ∷ []) c.loop-place.view.work c.loop-place.run.items c.loop-place.waiting c.loop-place.pairs c.loop-place.invariant.lazy
    _ (run_lacking (g.E.Equations.count_of e) (g.E.Equations.limit_of e) (g.E.Equations.right e) (g.E.Equations.reads e) (g.met.E.Equations.monotone e) (g.met.E.Equations.within e) (solved c.args.view.now) (c.args.start ∷ []) c.loop-place.view.work c.loop-place.run.items c.loop-place.waiting c.loop-place.pairs c.loop-place.invariant.lazy)
    _ _ (costs _ _ _ (length c.take.new.self) _ _ c.loop-place.invariant.cost (taken _ _ c.in-Some.place c.in-Some.ensures.taken) c.in_err-step_one.ensures.step))

pub returns-clause-least : goal.returns-clause-least
returns-clause-least g c =
    let e = c.args.eqs.now in
    let none : c.loop-place.waiting ≡ [] = nil_from_length _ (search rules) in
    lazy_done (g.E.Equations.count_of e) (g.E.Equations.limit_of e) (g.E.Equations.right e) (g.E.Equations.reads e) (g.met.E.Equations.monotone e) (g.met.E.Equations.within e) (solved c.args.view.now) (c.args.start ∷ []) c.loop-place.view.work c.loop-place.run.items c.loop-place.pairs
    (subst (λ xs. Lazy (g.E.Equations.count_of e) (g.E.Equations.limit_of e) (g.E.Equations.right e) (g.E.Equations.reads e) (solved c.args.view.now) c.loop-place.view.work (c.args.start ∷ []) c.loop-place.run.items xs c.loop-place.pairs) none c.loop-place.invariant.lazy)

pub returns-clause-cost : goal.returns-clause-cost
returns-clause-cost g c =
    let e = c.args.eqs.now in
    credit-few (g.E.Equations.count_of e) (g.E.Equations.limit_of e) (g.E.Equations.right e) (g.E.Equations.reads e) (g.met.E.Equations.monotone e) (g.met.E.Equations.within e) (solved c.args.view.now) (c.args.start ∷ []) c.loop-place.view.work c.loop-place.run.items c.loop-place.waiting c.loop-place.pairs c.loop-place.invariant.lazy
    (λ v. IsSome (get c.loop-place.view.work v)) (run_stored (g.E.Equations.count_of e) (g.E.Equations.limit_of e) (g.E.Equations.right e) (g.E.Equations.reads e) (g.met.E.Equations.monotone e) (g.met.E.Equations.within e) (solved c.args.view.now) (c.args.start ∷ []) c.loop-place.view.work c.loop-place.run.items c.loop-place.waiting c.loop-place.pairs c.loop-place.invariant.lazy)
    _ _ (at_end _ _ _ _ c.loop-place.invariant.cost)

pub returns-clause-listed : goal.returns-clause-listed
returns-clause-listed g c =
    let e = c.args.eqs.now in
    run_listed (g.E.Equations.count_of e) (g.E.Equations.limit_of e) (g.E.Equations.right e) (g.E.Equations.reads e) (g.met.E.Equations.monotone e) (g.met.E.Equations.within e) (solved c.args.view.now) (c.args.start ∷ []) c.loop-place.view.work c.loop-place.run.items c.loop-place.waiting c.loop-place.pairs c.loop-place.invariant.lazy

pub returns-clause-supported : goal.returns-clause-supported
returns-clause-supported g c =
    let e = c.args.eqs.now in
    let none : c.loop-place.waiting ≡ [] = nil_from_length _ (search rules) in
    lazy_supported (g.E.Equations.count_of e) (g.E.Equations.limit_of e) (g.E.Equations.right e) (g.E.Equations.reads e) (g.met.E.Equations.monotone e) (g.met.E.Equations.within e) (solved c.args.view.now) (c.args.start ∷ []) c.loop-place.view.work c.loop-place.run.items c.loop-place.pairs
    (subst (λ xs. Lazy (g.E.Equations.count_of e) (g.E.Equations.limit_of e) (g.E.Equations.right e) (g.E.Equations.reads e) (solved c.args.view.now) c.loop-place.view.work (c.args.start ∷ []) c.loop-place.run.items xs c.loop-place.pairs) none c.loop-place.invariant.lazy)

pub step_one-requires : goal.step_one-requires
step_one-requires g c =
    let e = c.args.eqs.now in
    let same = sym (kept_solved _ _ c.loop-place.invariant.kept) in
    subst (λ (b : Map). Lazy (g.E.Equations.count_of e) (g.E.Equations.limit_of e) (g.E.Equations.right e) (g.E.Equations.reads e) b c.loop-place.view.work (c.args.start ∷ []) c.loop-place.run.items (c.take.new.self ++ c.in-Some.place ∷ []) c.loop-place.pairs) same
    (subst (λ xs. Lazy (g.E.Equations.count_of e) (g.E.Equations.limit_of e) (g.E.Equations.right e) (g.E.Equations.reads e) (solved c.args.view.now) c.loop-place.view.work (c.args.start ∷ []) c.loop-place.run.items xs c.loop-place.pairs) c.in-Some.ensures.taken c.loop-place.invariant.lazy)

more_cost : (from credit before n rest waits after m now : ℕ) → n + waits ≤ from + credit → waits ≡ rest + 1 → after + credit ≤ rest + now → m ≡ n + 1 → m + after ≤ from + now
more_cost from credit before n rest waits after m now h w k e = omega arith

pub loop-place-preserved : goal.loop-place-preserved
loop-place-preserved g c =
    let e = c.args.eqs.now in
    let limit = g.E.Equations.limit_of e in
    let now = c.step_one.new.view.work in
    let same = kept_solved _ _ c.loop-place.invariant.kept in
    record {
      kept = keeps-trans _ _ _ c.loop-place.invariant.kept c.step_one.ensures.kept;
      lazy = subst (λ (b : Map). Lazy (g.E.Equations.count_of e) limit (g.E.Equations.right e) (g.E.Equations.reads e) b now (c.args.start ∷ []) c.step_one.new.run.items c.step_one.new.waiting c.step_one.new.pairs) same c.in_ok-step_one.ensures.lazy;
      has = subst (λ (b : Map). HasSet (b, now) c.args.start) same (c.in_ok-step_one.ensures.keeps c.args.start (subst (λ (b : Map). HasSet (b, c.loop-place.view.work) c.args.start) (sym same) c.loop-place.invariant.has));
      cost =
          more_cost _ _ 0 _ (length c.take.new.self) _ _ _ _ c.loop-place.invariant.cost (taken _ _ c.in-Some.place c.in-Some.ensures.taken)
          (subst (λ (b : Map). length c.step_one.new.waiting + credit limit (b, c.loop-place.view.work) c.loop-place.run.items c.loop-place.pairs ≤ length c.take.new.self + credit limit (b, now) c.step_one.new.run.items c.step_one.new.pairs) same c.in_ok-step_one.ensures.cost)
          c.in_ok-step_one.ensures.step;
    }

pub returns-in_err-step_one-clause-kept : goal.returns-in_err-step_one-clause-kept
returns-in_err-step_one-clause-kept g c = keeps-trans _ _ _ c.loop-place.invariant.kept c.step_one.ensures.kept
