use Rattle.infer_equations.proofs.Valued.{given-empty, valued-empty}
use Rattle.infer_equations.proofs.table.Table.new.Goals as goal

pub invariant_of-result : goal.invariant_of-result
invariant_of-result c = given-empty _ _ c.new.ensures

pub returns : goal.returns
returns c = valued-empty _ _ c.new.ensures
