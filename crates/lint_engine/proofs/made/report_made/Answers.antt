use Rattle.std.proofs.Common.{ap, ◌∙◌}
use Rattle.options.specs.Settings.{options_of}
use Rattle.lint_engine.proofs.MadeReports.{is_made_report}
use Rattle.lint_engine.proofs.made.report_made.Goals as goal

pub returns : goal.returns
returns g c =
    is_made_report c.args.classes _ _ _ c.in_ok-found.found _ _ _ _ (c.in_ok-options.ensures ∙ ap (λ file. options_of file c.args.line.now.edits) c.new.ensures)
    c.in_ok-reading.ensures c.in_ok-found.ensures c.status-status.ensures c.in_ok-summary_text.ensures c.new-lines.ensures c.in_ok-push.ensures.ok
