use Rattle.infer_systems.proofs.Readings.{InRow}
use Rattle.infer_systems.proofs.system.row.Given as goal

abbrev pub invariant-loop-place : goal.invariant-loop-place
invariant-loop-place l = InRow l.fn.limit l.fn.count l.fn.first l.place l.fn.view l.view l.set
