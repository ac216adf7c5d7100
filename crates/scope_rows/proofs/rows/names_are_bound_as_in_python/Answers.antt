use Rattle.scope_rows.proofs.BindersRows.{hold}
use Rattle.scope_rows.proofs.rows.names_are_bound_as_in_python.Goals as goal

pub returns : goal.returns
returns c = hold
