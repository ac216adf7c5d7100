use Rattle.std.proofs.Common.{rules, ◌≡◌, ◌∙◌, ap, ◌||◌, length}
use Rattle.std.specs.Prelude.{nat_lt}
use Rattle.infer_sets.specs.Numbers.{set_at}
use Rattle.infer_equations.specs.Seen.{solved}
use Rattle.infer_equations.proofs.Reading.{keeps-trans}
use Rattle.infer_reached.specs.Tables.{assigned, tables}
use Rattle.infer_reached.proofs.Extension.{added_stay, read_grew}
use Rattle.infer_plain.proofs.Sweeps.{look_has, look_done}
use Rattle.infer_plain.proofs.plain.look.Goals as goal

pub evaluate-requires : goal.evaluate-requires
evaluate-requires g c = c.requires.progress.counted c.args.var c.requires.known

pub raise-requires-clause-known : goal.raise-requires-clause-known
raise-requires-clause-known g c =
    let e = c.args.eqs.now in
    let old = c.args.view.now in
    let added = c.add_all.new.view in
    look_has (g.E.Equations.count_of e) (g.E.Equations.limit_of e) (g.E.Equations.right e) (g.met.E.Equations.monotone e) (g.met.E.Equations.within e) (solved old)
    (old.work, c.args.run.now.items) (added.work, c.add_all.new.run.items) c.args.var (set_at added.numbers c.in_ok-visit.visit.set) c.in_ok-visit.visit.noted.items c.deref.result.now (g.E.Equations.reads e c.args.var)
    (added_stay old c.evaluate.new.view (added.work, c.add_all.new.run.items) c.args.run.now.items c.deref.result.now c.evaluate.ensures.stays c.in_ok-add_all.ensures.added) c.deref.ensures.value
    (read_grew (g.E.Equations.right e c.args.var) (g.E.Equations.reads e c.args.var) (tables old) _ _ _ _ c.add_all.ensures.keeps.numbers c.in_ok-visit.ensures.given c.in_ok-visit.ensures.read)
    (g.met.E.Equations.in_range e c.args.var (assigned (tables old)) (c.requires.progress.counted c.args.var c.requires.known)) c.requires.progress c.requires.known

pub returns-clause-keeps : goal.returns-clause-keeps
returns-clause-keeps g c = keeps-trans _ _ _ (keeps-trans _ _ _ c.evaluate.ensures.stays.keeps c.add_all.ensures.keeps) c.raise.ensures.keeps

pub returns-in_err-visit-clause-keeps : goal.returns-in_err-visit-clause-keeps
returns-in_err-visit-clause-keeps g c = c.evaluate.ensures.stays.keeps

pub returns-in_err-add_all-clause-keeps : goal.returns-in_err-add_all-clause-keeps
returns-in_err-add_all-clause-keeps g c = keeps-trans _ _ _ c.evaluate.ensures.stays.keeps c.add_all.ensures.keeps

pub returns-in_err-up-clause-keeps : goal.returns-in_err-up-clause-keeps
returns-in_err-up-clause-keeps g c = keeps-trans _ _ _ (keeps-trans _ _ _ c.evaluate.ensures.stays.keeps c.add_all.ensures.keeps) c.raise.ensures.keeps

pub returns-clause-looked : goal.returns-clause-looked
returns-clause-looked g c =
    let e = c.args.eqs.now in
    let old = c.args.view.now in
    let added = c.add_all.new.view in
    let before : c.len-known.result ≡ length c.args.run.now.items = search rules in
    let after : c.len.result ≡ length c.add_all.new.run.items = search rules in
    look_done (g.E.Equations.count_of e) (g.E.Equations.limit_of e) (g.E.Equations.right e) (g.met.E.Equations.monotone e) (g.met.E.Equations.within e) (solved old)
    (old.work, c.args.run.now.items) (added.work, c.add_all.new.run.items) c.args.var (set_at added.numbers c.in_ok-visit.visit.set) c.in_ok-visit.visit.noted.items c.deref.result.now (g.E.Equations.reads e c.args.var)
    (added_stay old c.evaluate.new.view (added.work, c.add_all.new.run.items) c.args.run.now.items c.deref.result.now c.evaluate.ensures.stays c.in_ok-add_all.ensures.added) c.deref.ensures.value
    (read_grew (g.E.Equations.right e c.args.var) (g.E.Equations.reads e c.args.var) (tables old) _ _ _ _ c.add_all.ensures.keeps.numbers c.in_ok-visit.ensures.given c.in_ok-visit.ensures.read)
    (g.met.E.Equations.in_range e c.args.var (assigned (tables old)) (c.requires.progress.counted c.args.var c.requires.known)) c.requires.progress c.requires.known
    c.in_ok-up.up c.in_ok-up.ensures.up _ c.in_ok-up.ensures.table c.any_change.result
    (c.any_change.ensures ∙ ap (λ n. c.in_ok-up.up || nat_lt n c.len.result) before ∙ ap (λ n. c.in_ok-up.up || nat_lt (length c.args.run.now.items) n) after)
