use Rattle.scope_rows.proofs.DeletesRows.{hold}
use Rattle.scope_rows.proofs.rows.attributes_are_deleted_as_in_python.Goals as goal

pub returns : goal.returns
returns c = hold
