use Rattle.std.proofs.Common.{◌≡◌, ◌+◌, ◌≤◌, ◌++◌, length}
use Rattle.check_basic.specs.Lines.{lines_of}
use Rattle.check_basic.specs.LineRules.{numbered_messages}
use Rattle.check_basic.proofs.source.check_each.Given as goal

abbrev pub invariant-loop-rest : goal.invariant-loop-rest
invariant-loop-rest l = record {
  short : l.number + length l.rest ≤ length l.text;
  count : l.number + length (lines_of l.rest) ≡ length (lines_of l.text);
  told : l.found ++ numbered_messages l.most l.file (l.number + 1) (lines_of l.rest) ≡ l.fn.found ++ numbered_messages l.most l.file 1 (lines_of l.text);
}

abbrev pub decreases-loop-rest : goal.decreases-loop-rest
decreases-loop-rest l = length l.rest
