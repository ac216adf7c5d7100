use Rattle.std.proofs.Common.{◌≡◌, ℕ, ◌+◌, ◌<◌, false}
use Rattle.std.specs.Prelude.{slice_index_or}
use Rattle.pragma_scope.specs.declared.block.Block.{Block}
use Rattle.pragma_scope.specs.Regions.{is_before}
use Rattle.pragma_scope.proofs.nesting.ascend.Given as goal

abbrev pub invariant-loop-i : goal.invariant-loop-i
invariant-loop-i l = (k : ℕ) (d : Block) → k + 1 < l.i → is_before (slice_index_or l.blocks (k + 1) d).start (slice_index_or l.blocks k d).start ≡ false
