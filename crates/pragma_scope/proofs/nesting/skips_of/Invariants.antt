use Rattle.std.proofs.Common.{◌≡◌, length}
use Rattle.pragma_scope.specs.Nestings.{AreSkips}
use Rattle.pragma_scope.proofs.nesting.skips_of.Given as goal

abbrev pub invariant-loop-n : goal.invariant-loop-n
invariant-loop-n l = record {
  many : length l.skips.items ≡ l.n;
  skips : AreSkips l.blocks l.skips.items;
}
