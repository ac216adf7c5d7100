use Rattle.std.proofs.Common.{arith}
use Rattle.std.specs.Option.{option_copied}
use Rattle.lint_report.proofs.Reports.{report_more}
use Rattle.lint_report.proofs.report.report_lines.Goals as goal

pub loop-m-preserved : goal.loop-m-preserved
loop-m-preserved c =
    report_more c.args.reading.now c.loop-m.last c.args.messages.now c.loop-m.m-index c.m-item.result (option_copied c.listed_at-listed.result) _ _ _ _
    (omega arith) c.m-item.is c.listed_at-listed.ensures c.in_ok-push_heading.ensures c.in_ok-push_message.ensures c.loop-m.invariant
