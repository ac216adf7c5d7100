use Rattle.scope_rows.proofs.ListsRows.{hold}
use Rattle.scope_rows.proofs.rows.lists_are_as_in_python.Goals as goal

pub returns : goal.returns
returns c = hold
