use Rattle.std.proofs.Common.{ℕ, ◌<◌, ◌≤◌, ◌-◌}
use Rattle.infer_sets.specs.Slots.{slot_at, Holds}
use Rattle.infer_sets.proofs.set_table.first_free.Given as goal

abbrev pub invariant-loop-probe : goal.invariant-loop-probe
invariant-loop-probe l = (l.probe ≤ l.fn.len) × ((j : ℕ) → j < l.probe → Holds (slot_at l.fn.slots.entries) l.fn.digest j l.fn.len)

abbrev pub decreases-loop-probe : goal.decreases-loop-probe
decreases-loop-probe l = l.fn.len - l.probe
