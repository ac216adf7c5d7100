use Rattle.scope_rows.proofs.StoresRows.{hold}
use Rattle.scope_rows.proofs.rows.attributes_are_stored_as_in_python.Goals as goal

pub returns : goal.returns
returns c = hold
