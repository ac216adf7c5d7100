use Rattle.std.proofs.Common.{sym, ◌∙◌}
use Rattle.infer_sets.proofs.Growth.{position-none, found}
use Rattle.infer_sets.proofs.set_table.SetTable.number.Goals as goal

pub add-requires : goal.add-requires
add-requires c = position-none _ _ (sym c.find.ensures ∙ c.in-None.is)

pub returns-in-Some-clause-ok : goal.returns-in-Some-clause-ok
returns-in-Some-clause-ok c = found _ _ _ (sym c.find.ensures ∙ c.in-Some.is)
