use Rattle.std.proofs.Common.{◌≡◌, false, sym, ◌∙◌, subst}
use Rattle.infer_sets.specs.Numbers.{has_number}
use Rattle.infer_sets.proofs.Growth.{position-none, found}
use Rattle.infer_sets.proofs.set_table.SetTable.number_copy.Goals as goal

pub add-requires : goal.add-requires
add-requires c = subst (λ s. has_number c.args.self.now s ≡ false) (sym c.in_ok-copy-in-None.ensures) (position-none _ _ (sym c.find.ensures ∙ c.in-None.is))

pub returns-in-Some-clause-ok : goal.returns-in-Some-clause-ok
returns-in-Some-clause-ok c = found _ _ _ (sym c.find.ensures ∙ c.in-Some.is)
