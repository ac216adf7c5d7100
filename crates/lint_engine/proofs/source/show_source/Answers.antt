use Rattle.std.proofs.Common.{ap, ◌∙◌}
use Rattle.lint_engine.specs.Shown.{alone, shown_of, syntax_error}
use Rattle.lint_engine.proofs.ShownLaws.{faulty_source}
use Rattle.lint_engine.proofs.source.show_source.Goals as goal

pub returns-in_ok-told-in-Err-At-clause-shown : goal.returns-in_ok-told-in-Err-At-clause-shown
returns-in_ok-told-in-Err-At-clause-shown c =
    let first = rw c.in-Err-At.field-0-is at c.in-Err-At.ensures.fault in
    faulty_source c.args.options.now c.args.reading.now c.args.file c.args.bytes.now c.in-Err-At.pos c.in-Err-At.cause _ first
    (c.in_ok-told-in-Err-At.ensures.shown ∙ ap (λ reason. shown_of c.args.options.now (alone (syntax_error c.args.file c.in-Err-At.pos reason))) c.reason_of.ensures)
