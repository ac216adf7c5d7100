use Rattle.std.proofs.Common.{rules, ◌≡◌, ◌<◌, ◌∷◌, [], length, sym, subst}
use Rattle.std.specs.Vec.{vec_len}
use Rattle.infer_sets.specs.Numbers.{set_at}
use Rattle.infer_equations.specs.Assignment.{Map}
use Rattle.infer_equations.specs.Seen.{solved}
use Rattle.infer_equations.proofs.Reading.{keeps-trans}
use Rattle.infer_reached.specs.Tables.{assigned, tables}
use Rattle.infer_reached.proofs.Extension.{added_stay, read_grew}
use Rattle.infer_lazy.proofs.Steps.{step_place, step_in_range, step_has, step_longer, step_done}
use Rattle.infer_lazy.proofs.worklist.step_one.Goals as goal

pub index-var-requires : goal.index-var-requires
index-var-requires g c =
    let e = c.args.eqs.now in
    let len : vec_len c.args.run.now ≡ length c.args.run.now.items = search rules in
    subst (λ n. c.args.place < n) (sym len) (step_place (g.E.Equations.count_of e) (g.E.Equations.limit_of e) (g.E.Equations.right e) (g.E.Equations.reads e) (g.met.E.Equations.monotone e) (g.met.E.Equations.within e) (solved c.args.view.now) (c.args.start ∷ [])
    c.args.view.now.work c.args.run.now.items c.args.waiting.now c.args.place c.args.pairs.now c.requires)

pub evaluate-requires : goal.evaluate-requires
evaluate-requires g c =
    let e = c.args.eqs.now in
    step_in_range (g.E.Equations.count_of e) (g.E.Equations.limit_of e) (g.E.Equations.right e) (g.E.Equations.reads e) (g.met.E.Equations.monotone e) (g.met.E.Equations.within e) (solved c.args.view.now) (c.args.start ∷ [])
    c.args.view.now.work c.args.run.now.items c.args.waiting.now c.args.place c.args.pairs.now c.requires c.index-var.result.now c.index-var.ensures

pub add_from-requires : goal.add_from-requires
add_from-requires g c =
    let e = c.args.eqs.now in
    let t : Map × Map = tables c.args.view.now in
    let known : c.len-known.result ≡ length c.args.run.now.items = search rules in
    let len : c.len.result ≡ length c.add_all.new.run.items = search rules in
    step_longer (g.E.Equations.count_of e) (g.E.Equations.limit_of e) (g.E.Equations.right e) (g.E.Equations.reads e) (g.met.E.Equations.monotone e) (g.met.E.Equations.within e) (solved c.args.view.now) (c.args.start ∷ [])
    c.args.view.now.work c.args.run.now.items c.args.waiting.now c.args.place c.args.pairs.now c.requires c.index-var.result.now c.index-var.ensures
    (g.met.E.Equations.in_range e c.index-var.result.now (assigned t) (step_in_range (g.E.Equations.count_of e) (g.E.Equations.limit_of e) (g.E.Equations.right e) (g.E.Equations.reads e) (g.met.E.Equations.monotone e) (g.met.E.Equations.within e) (solved c.args.view.now) (c.args.start ∷ [])
    c.args.view.now.work c.args.run.now.items c.args.waiting.now c.args.place c.args.pairs.now c.requires c.index-var.result.now c.index-var.ensures))
    (set_at c.add_all.new.view.numbers c.in_ok-visit.visit.set) c.in_ok-visit.visit.noted.items
    (read_grew (g.E.Equations.right e c.index-var.result.now) (g.E.Equations.reads e c.index-var.result.now) t _ _ _ _ c.add_all.ensures.keeps.numbers c.in_ok-visit.ensures.given c.in_ok-visit.ensures.read)
    (c.add_all.new.view.work, c.add_all.new.run.items) c.deref.result.now (added_stay c.args.view.now c.evaluate.new.view (c.add_all.new.view.work, c.add_all.new.run.items) c.args.run.now.items c.deref.result.now c.evaluate.ensures.stays c.in_ok-add_all.ensures.added) c.deref.ensures.value c.len-known.result c.len.result known len

pub raise_and_wake-requires-clause-known : goal.raise_and_wake-requires-clause-known
raise_and_wake-requires-clause-known g c =
    let e = c.args.eqs.now in
    let t : Map × Map = tables c.args.view.now in
    step_has (g.E.Equations.count_of e) (g.E.Equations.limit_of e) (g.E.Equations.right e) (g.E.Equations.reads e) (g.met.E.Equations.monotone e) (g.met.E.Equations.within e) (solved c.args.view.now) (c.args.start ∷ [])
    c.args.view.now.work c.args.run.now.items c.args.waiting.now c.args.place c.args.pairs.now c.requires c.index-var.result.now c.index-var.ensures
    (g.met.E.Equations.in_range e c.index-var.result.now (assigned t) (step_in_range (g.E.Equations.count_of e) (g.E.Equations.limit_of e) (g.E.Equations.right e) (g.E.Equations.reads e) (g.met.E.Equations.monotone e) (g.met.E.Equations.within e) (solved c.args.view.now) (c.args.start ∷ [])
    c.args.view.now.work c.args.run.now.items c.args.waiting.now c.args.place c.args.pairs.now c.requires c.index-var.result.now c.index-var.ensures))
    (set_at c.add_all.new.view.numbers c.in_ok-visit.visit.set) c.in_ok-visit.visit.noted.items
    (read_grew (g.E.Equations.right e c.index-var.result.now) (g.E.Equations.reads e c.index-var.result.now) t _ _ _ _ c.add_all.ensures.keeps.numbers c.in_ok-visit.ensures.given c.in_ok-visit.ensures.read)
    (c.add_all.new.view.work, c.add_all.new.run.items) c.deref.result.now (added_stay c.args.view.now c.evaluate.new.view (c.add_all.new.view.work, c.add_all.new.run.items) c.args.run.now.items c.deref.result.now c.evaluate.ensures.stays c.in_ok-add_all.ensures.added) c.deref.ensures.value

pub returns-clause-lazy : goal.returns-clause-lazy
returns-clause-lazy g c =
    let e = c.args.eqs.now in
    let t : Map × Map = tables c.args.view.now in
    let known : c.len-known.result ≡ length c.args.run.now.items = search rules in
    let len : c.len.result ≡ length c.add_all.new.run.items = search rules in
    (step_done (g.E.Equations.count_of e) (g.E.Equations.limit_of e) (g.E.Equations.right e) (g.E.Equations.reads e) (g.met.E.Equations.monotone e) (g.met.E.Equations.within e) (solved c.args.view.now) (c.args.start ∷ [])
    c.args.view.now.work c.args.run.now.items c.args.waiting.now c.args.place c.args.pairs.now c.requires c.index-var.result.now c.index-var.ensures
    (g.met.E.Equations.in_range e c.index-var.result.now (assigned t) (step_in_range (g.E.Equations.count_of e) (g.E.Equations.limit_of e) (g.E.Equations.right e) (g.E.Equations.reads e) (g.met.E.Equations.monotone e) (g.met.E.Equations.within e) (solved c.args.view.now) (c.args.start ∷ [])
    c.args.view.now.work c.args.run.now.items c.args.waiting.now c.args.place c.args.pairs.now c.requires c.index-var.result.now c.index-var.ensures))
    (set_at c.add_all.new.view.numbers c.in_ok-visit.visit.set) c.in_ok-visit.visit.noted.items
    (read_grew (g.E.Equations.right e c.index-var.result.now) (g.E.Equations.reads e c.index-var.result.now) t _ _ _ _ c.add_all.ensures.keeps.numbers c.in_ok-visit.ensures.given c.in_ok-visit.ensures.read)
    (c.add_all.new.view.work, c.add_all.new.run.items) c.deref.result.now (added_stay c.args.view.now c.evaluate.new.view (c.add_all.new.view.work, c.add_all.new.run.items) c.args.run.now.items c.deref.result.now c.evaluate.ensures.stays c.in_ok-add_all.ensures.added) c.deref.ensures.value
    c.len-known.result c.len.result known len c.add_from.new.self c.in_ok-add_from.ensures c.deref-2.result.now c.deref-2.ensures.value c.pair_all.new.pairs c.in_ok-pair_all.ensures
    c.raise_and_wake.new.view.work c.in_ok-raise_and_wake.ensures.table c.raise_and_wake.new.waiting c.in_ok-raise_and_wake.ensures.waits).0

pub returns-clause-cost : goal.returns-clause-cost
returns-clause-cost g c =
    let e = c.args.eqs.now in
    let t : Map × Map = tables c.args.view.now in
    let known : c.len-known.result ≡ length c.args.run.now.items = search rules in
    let len : c.len.result ≡ length c.add_all.new.run.items = search rules in
    (step_done (g.E.Equations.count_of e) (g.E.Equations.limit_of e) (g.E.Equations.right e) (g.E.Equations.reads e) (g.met.E.Equations.monotone e) (g.met.E.Equations.within e) (solved c.args.view.now) (c.args.start ∷ [])
    c.args.view.now.work c.args.run.now.items c.args.waiting.now c.args.place c.args.pairs.now c.requires c.index-var.result.now c.index-var.ensures
    (g.met.E.Equations.in_range e c.index-var.result.now (assigned t) (step_in_range (g.E.Equations.count_of e) (g.E.Equations.limit_of e) (g.E.Equations.right e) (g.E.Equations.reads e) (g.met.E.Equations.monotone e) (g.met.E.Equations.within e) (solved c.args.view.now) (c.args.start ∷ [])
    c.args.view.now.work c.args.run.now.items c.args.waiting.now c.args.place c.args.pairs.now c.requires c.index-var.result.now c.index-var.ensures))
    (set_at c.add_all.new.view.numbers c.in_ok-visit.visit.set) c.in_ok-visit.visit.noted.items
    (read_grew (g.E.Equations.right e c.index-var.result.now) (g.E.Equations.reads e c.index-var.result.now) t _ _ _ _ c.add_all.ensures.keeps.numbers c.in_ok-visit.ensures.given c.in_ok-visit.ensures.read)
    (c.add_all.new.view.work, c.add_all.new.run.items) c.deref.result.now (added_stay c.args.view.now c.evaluate.new.view (c.add_all.new.view.work, c.add_all.new.run.items) c.args.run.now.items c.deref.result.now c.evaluate.ensures.stays c.in_ok-add_all.ensures.added) c.deref.ensures.value
    c.len-known.result c.len.result known len c.add_from.new.self c.in_ok-add_from.ensures c.deref-2.result.now c.deref-2.ensures.value c.pair_all.new.pairs c.in_ok-pair_all.ensures
    c.raise_and_wake.new.view.work c.in_ok-raise_and_wake.ensures.table c.raise_and_wake.new.waiting c.in_ok-raise_and_wake.ensures.waits).1

pub returns-clause-keeps : goal.returns-clause-keeps
returns-clause-keeps g c =
    let e = c.args.eqs.now in
    let t : Map × Map = tables c.args.view.now in
    let known : c.len-known.result ≡ length c.args.run.now.items = search rules in
    let len : c.len.result ≡ length c.add_all.new.run.items = search rules in
    (step_done (g.E.Equations.count_of e) (g.E.Equations.limit_of e) (g.E.Equations.right e) (g.E.Equations.reads e) (g.met.E.Equations.monotone e) (g.met.E.Equations.within e) (solved c.args.view.now) (c.args.start ∷ [])
    c.args.view.now.work c.args.run.now.items c.args.waiting.now c.args.place c.args.pairs.now c.requires c.index-var.result.now c.index-var.ensures
    (g.met.E.Equations.in_range e c.index-var.result.now (assigned t) (step_in_range (g.E.Equations.count_of e) (g.E.Equations.limit_of e) (g.E.Equations.right e) (g.E.Equations.reads e) (g.met.E.Equations.monotone e) (g.met.E.Equations.within e) (solved c.args.view.now) (c.args.start ∷ [])
    c.args.view.now.work c.args.run.now.items c.args.waiting.now c.args.place c.args.pairs.now c.requires c.index-var.result.now c.index-var.ensures))
    (set_at c.add_all.new.view.numbers c.in_ok-visit.visit.set) c.in_ok-visit.visit.noted.items
    (read_grew (g.E.Equations.right e c.index-var.result.now) (g.E.Equations.reads e c.index-var.result.now) t _ _ _ _ c.add_all.ensures.keeps.numbers c.in_ok-visit.ensures.given c.in_ok-visit.ensures.read)
    (c.add_all.new.view.work, c.add_all.new.run.items) c.deref.result.now (added_stay c.args.view.now c.evaluate.new.view (c.add_all.new.view.work, c.add_all.new.run.items) c.args.run.now.items c.deref.result.now c.evaluate.ensures.stays c.in_ok-add_all.ensures.added) c.deref.ensures.value
    c.len-known.result c.len.result known len c.add_from.new.self c.in_ok-add_from.ensures c.deref-2.result.now c.deref-2.ensures.value c.pair_all.new.pairs c.in_ok-pair_all.ensures
    c.raise_and_wake.new.view.work c.in_ok-raise_and_wake.ensures.table c.raise_and_wake.new.waiting c.in_ok-raise_and_wake.ensures.waits).2

pub returns-in_err-visit-clause-kept : goal.returns-in_err-visit-clause-kept
returns-in_err-visit-clause-kept g c = c.evaluate.ensures.stays.keeps

pub returns-in_err-add_all-clause-kept : goal.returns-in_err-add_all-clause-kept
returns-in_err-add_all-clause-kept g c = keeps-trans _ _ _ c.evaluate.ensures.stays.keeps c.add_all.ensures.keeps

pub returns-in_err-add_from-clause-kept : goal.returns-in_err-add_from-clause-kept
returns-in_err-add_from-clause-kept g c = keeps-trans _ _ _ c.evaluate.ensures.stays.keeps c.add_all.ensures.keeps

pub returns-in_err-pair_all-clause-kept : goal.returns-in_err-pair_all-clause-kept
returns-in_err-pair_all-clause-kept g c = keeps-trans _ _ _ c.evaluate.ensures.stays.keeps c.add_all.ensures.keeps

pub returns-in_err-raise_and_wake-clause-kept : goal.returns-in_err-raise_and_wake-clause-kept
returns-in_err-raise_and_wake-clause-kept g c = keeps-trans _ _ _ (keeps-trans _ _ _ c.evaluate.ensures.stays.keeps c.add_all.ensures.keeps) c.raise_and_wake.ensures.keeps

pub returns-clause-kept : goal.returns-clause-kept
returns-clause-kept g c = keeps-trans _ _ _ (keeps-trans _ _ _ c.evaluate.ensures.stays.keeps c.add_all.ensures.keeps) c.raise_and_wake.ensures.keeps
