use Rattle.std.proofs.Common.{◌≡◌, map, take}
use Rattle.scope_bind.proofs.name_table.texts_of.Given as goal

abbrev pub invariant-loop-row : goal.invariant-loop-row
invariant-loop-row l = l.texts.items ≡ map (λ r. r.name) (take l.row-index l.rows)
