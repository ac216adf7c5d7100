use Rattle.std.proofs.Common.{◌≤◌, take}
use Rattle.std.specs.List.{concat}
use Rattle.lint_outside.specs.Sinks.{Appends}
use Rattle.lint_engine.proofs.writing.write_lines.Given as goal

abbrev pub invariant-loop-line : goal.invariant-loop-line
invariant-loop-line g l = record {
  later : g.S.Sink.faults l.fn.sink ≤ g.S.Sink.faults l.sink;
  so_far : Appends (g.S.Sink.written l.fn.sink) (g.S.Sink.written l.sink) (concat (take l.line-index l.lines));
}
