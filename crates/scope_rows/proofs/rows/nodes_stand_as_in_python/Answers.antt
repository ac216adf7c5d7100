use Rattle.scope_rows.proofs.PlacesRows.{hold}
use Rattle.scope_rows.proofs.rows.nodes_stand_as_in_python.Goals as goal

pub returns : goal.returns
returns c = hold
