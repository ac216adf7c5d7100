use Rattle.std.proofs.Common.{◌≤◌, ◌-◌, length}
use Rattle.infer_sets.specs.Slots.{slot_at}
use Rattle.infer_sets.proofs.Slots.{Passed}
use Rattle.infer_sets.proofs.set_table.seek.Given as goal

abbrev pub invariant-loop-id : goal.invariant-loop-id
invariant-loop-id l = (l.probe ≤ length l.fn.sets) × Passed l.fn.sets (slot_at l.fn.slots.entries) l.fn.set l.fn.digest l.probe

abbrev pub decreases-loop-id : goal.decreases-loop-id
decreases-loop-id l = length l.fn.sets - l.probe
