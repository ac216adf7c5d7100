use Rattle.std.proofs.Common.{◌≡◌, ◌++◌, drop}
use Rattle.lint_report.specs.Report.{report, report_from}
use Rattle.lint_report.proofs.report.report_lines.Given as goal

abbrev pub invariant-loop-m : goal.invariant-loop-m
invariant-loop-m l = l.lines ++ report_from l.reading l.last (drop l.m-index l.messages) ≡ report l.reading l.messages
