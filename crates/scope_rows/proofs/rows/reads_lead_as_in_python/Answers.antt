use Rattle.scope_rows.proofs.ReadsRows.{hold}
use Rattle.scope_rows.proofs.rows.reads_lead_as_in_python.Goals as goal

pub returns : goal.returns
returns c = hold
