use Rattle.std.proofs.Common.{◌≡◌, ◌≤◌, take, length}
use Rattle.pragma_scope.specs.Nestings.{reaching}
use Rattle.pragma_scope.proofs.nesting.reaching.Given as goal

abbrev pub invariant-loop-left : goal.invariant-loop-left
invariant-loop-left l = record {
  within : l.left ≤ length l.blocks;
  same : reaching l.line (take l.left l.blocks) ≡ reaching l.line (take l.begun l.blocks);
}

abbrev pub decreases-loop-left : goal.decreases-loop-left
decreases-loop-left l = l.left
