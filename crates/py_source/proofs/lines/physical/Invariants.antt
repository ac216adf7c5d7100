use Rattle.std.proofs.Common.{◌≡◌, ◌+◌, ◌++◌, List, length}
use Rattle.py_source.specs.declared.span.Span.{Span}
use Rattle.py_source.specs.Physical.{ArePhysical, ArePhysicalFrom}
use Rattle.py_source.proofs.lines.physical.Given as goal

abbrev pub invariant-loop-rest : goal.invariant-loop-rest
invariant-loop-rest l = record {
  lines : (more : List Span) → ArePhysicalFrom l.start l.rest more → ArePhysical l.text (l.spans.items ++ more);
  size : l.start + length l.rest ≡ length l.text;
}

abbrev pub decreases-loop-rest : goal.decreases-loop-rest
decreases-loop-rest l = length l.rest
