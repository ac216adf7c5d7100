use Rattle.std.proofs.Common.{◌≡◌, ◌++◌, length}
use Rattle.check_basic.specs.LogicalLines.{semicolons, unnecessary_semicolons}
use Rattle.check_basic.proofs.logical.check_semicolons.Given as goal

abbrev pub invariant-loop-line : goal.invariant-loop-line
invariant-loop-line l = l.found ++ semicolons l.file l.tokens l.lines ≡ l.fn.found ++ unnecessary_semicolons l.file l.tokens

abbrev pub decreases-loop-line : goal.decreases-loop-line
decreases-loop-line l = length l.lines
