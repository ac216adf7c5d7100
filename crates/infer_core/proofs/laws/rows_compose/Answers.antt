use Rattle.infer_core.proofs.Row.{rows-compose}
use Rattle.infer_core.proofs.laws.rows_compose.Goals as goal

pub returns : goal.returns
returns g c = rows-compose g.row.E.Denot
