use Rattle.scope_rows.proofs.ScopesRows.{hold}
use Rattle.scope_rows.proofs.rows.scopes_are_opened_as_in_python.Goals as goal

pub returns : goal.returns
returns c = hold
