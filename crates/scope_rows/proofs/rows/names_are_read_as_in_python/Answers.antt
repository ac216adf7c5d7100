use Rattle.scope_rows.proofs.NamesRows.{hold}
use Rattle.scope_rows.proofs.rows.names_are_read_as_in_python.Goals as goal

pub returns : goal.returns
returns c = hold
