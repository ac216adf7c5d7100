use Rattle.std.proofs.Common.{◌∙◌, subst}
use Rattle.infer_sets.specs.Numbers.{AreApart}
use Rattle.infer_sets.specs.Slots.{Finds}
use Rattle.infer_sets.proofs.Slots.{finds-first}
use Rattle.infer_sets.proofs.set_table.SetTable.find.Goals as goal

pub returns : goal.returns
returns c =
    let is = c.deref.ensures.value ∙ c.self.view_is in
    finds-first c.args.self.now c.args.set.now c.seek.result (subst AreApart c.self.view_is c.self.invariant.0) (subst (λ xs. Finds xs c.args.set.now c.seek.result) is c.seek.ensures)
