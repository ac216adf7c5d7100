use Rattle.std.proofs.Common.{◌≡◌, ◌∙◌, ap, sym, subst}
use Rattle.infer_equations.specs.Kept.{taken_over}
use Rattle.infer_equations.specs.Valued.{valued, AreGiven}
use Rattle.infer_sets.specs.Joins.{Layer}
use Rattle.infer_equations.proofs.Valued.{given-empty, valued-grew}
use Rattle.infer_equations.proofs.Copied.{over_apart, over_stored, over_given, over_ok, over_err, on_err}
use Rattle.infer_equations.proofs.table.Table.take_over.Goals as goal

pub copy_all-requires-clause-old : goal.copy_all-requires-clause-old
copy_all-requires-clause-old c = subst (λ (l : Layer). AreGiven l.sets c.other.inside.ids) (sym c.over-from.ensures) c.other.invariant

pub copy_all-requires-clause-new : goal.copy_all-requires-clause-new
copy_all-requires-clause-new c = given-empty _ _ c.new-ids.ensures

pub returns-in_err-copy_all-clause-err : goal.returns-in_err-copy_all-clause-err
returns-in_err-copy_all-clause-err c = on_err c.from_residual.result _ (valued-grew _ _ _ c.copy_all.ensures.grew c.self.invariant ∙ c.self.view_is)

pub keep_all-requires-clause-apart : goal.keep_all-requires-clause-apart
keep_all-requires-clause-apart c = over_apart _ _ _ _ _ _ _ c.args.run.now c.copy_all.ensures.grew c.self.invariant c.new-ids.ensures c.in_ok-copy_all.ensures.ok _ c.self.view_is c.requires.apart

pub keep_all-requires-clause-stored : goal.keep_all-requires-clause-stored
keep_all-requires-clause-stored c = over_stored _ _ _ _ _ _ _ c.args.run.now c.copy_all.ensures.grew c.self.invariant c.new-ids.ensures c.in_ok-copy_all.ensures.ok

pub invariant_of-self-2 : goal.invariant_of-self-2
invariant_of-self-2 c = over_given _ _ _ _ _ _ _ c.args.run.now c.copy_all.ensures.grew c.self.invariant c.new-ids.ensures c.in_ok-copy_all.ensures.ok c.keep_all.result _ c.copy_all.ensures.given c.keep_all.ensures.ok c.keep_all.ensures.err

pub returns-clause-ok : goal.returns-clause-ok
returns-clause-ok c =
    over_ok _ _ _ _ _ _ _ c.args.run.now c.copy_all.ensures.grew c.self.invariant c.new-ids.ensures c.in_ok-copy_all.ensures.ok c.keep_all.result _ _ _ c.self.view_is
    (ap (λ (l : Layer). valued l.sets c.other.inside.ids) c.over-from.ensures ∙ c.other.view_is) c.requires.stored c.keep_all.ensures.ok

pub returns-clause-err : goal.returns-clause-err
returns-clause-err c = over_err _ _ _ _ _ _ _ c.args.run.now c.copy_all.ensures.grew c.self.invariant c.new-ids.ensures c.in_ok-copy_all.ensures.ok c.keep_all.result _ _ c.self.view_is c.keep_all.ensures.err
