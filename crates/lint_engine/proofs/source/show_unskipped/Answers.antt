use Rattle.std.proofs.Common.{ap, ◌∙◌}
use Rattle.parse_stmt.specs.Spelling.{IsFault}
use Rattle.lint_engine.specs.Shown.{alone, head_of, shown_of, syntax_error}
use Rattle.lint_engine.proofs.ShownLaws.{formless_source, read_source}
use Rattle.lint_engine.proofs.source.show_unskipped.Goals as goal

pub returns-in_ok-show_parsed-in-Ok-clause-shown : goal.returns-in_ok-show_parsed-in-Ok-clause-shown
returns-in_ok-show_parsed-in-Ok-clause-shown c = read_source c.args.options.now c.args.reading.now c.args.file c.args.bytes.now c.args.tokens.now _ _ c.requires.tokens c.requires.unskipped c.in-Ok.ensures.tree c.in_ok-show_parsed-in-Ok.ensures.shown

pub returns-in_ok-told-in-Err-At-clause-shown : goal.returns-in_ok-told-in-Err-At-clause-shown
returns-in_ok-told-in-Err-At-clause-shown c =
    let fault : IsFault c.args.tokens.now c.in-Err-At.line c.in-Err-At.cause = rw c.in-Err-At.field-0-is at c.in-Err-At.ensures.fault in
    formless_source c.args.options.now c.args.reading.now c.args.file c.args.bytes.now c.args.tokens.now c.in-Err-At.line c.in-Err-At.cause _ c.requires.tokens c.requires.unskipped fault
    (c.in_ok-told-in-Err-At.ensures.shown ∙ ap (λ reason. shown_of c.args.options.now (alone (syntax_error c.args.file (head_of c.in-Err-At.line) reason))) c.syntax_reason.ensures)
