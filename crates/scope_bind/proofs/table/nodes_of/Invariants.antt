use Rattle.std.proofs.Common.{◌≡◌, map, take}
use Rattle.scope_bind.proofs.table.nodes_of.Given as goal

abbrev pub invariant-loop-row : goal.invariant-loop-row
invariant-loop-row l = l.nodes.items ≡ map (λ r. r.node) (take l.row-index l.rows)
