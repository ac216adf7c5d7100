use Rattle.scope_rows.proofs.LocalsRows.{hold}
use Rattle.scope_rows.proofs.rows.names_are_local_as_in_python.Goals as goal

pub returns : goal.returns
returns c = hold
