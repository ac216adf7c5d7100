use Rattle.std.proofs.Common.{◌≡◌, ◌+◌, ◌≤◌, length}
use Rattle.py_layout.specs.Parts.{part_len}
use Rattle.py_layout.proofs.logical.part_len.Given as goal

abbrev pub invariant-loop-rest : goal.invariant-loop-rest
invariant-loop-rest l = (l.len + part_len l.depth l.rest ≡ part_len 0 l.items) × (l.len + length l.rest ≡ length l.items) × (l.depth ≤ l.len)

abbrev pub decreases-loop-rest : goal.decreases-loop-rest
decreases-loop-rest l = length l.rest
