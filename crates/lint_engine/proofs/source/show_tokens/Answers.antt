use Rattle.std.proofs.Common.{sym, ◌∙◌}
use Rattle.lint_engine.proofs.ShownLaws.{skipped_source}
use Rattle.lint_engine.proofs.source.show_tokens.Goals as goal

pub returns-then-skip_file-clause-shown : goal.returns-then-skip_file-clause-shown
returns-then-skip_file-clause-shown c =
    skipped_source c.args.options.now c.args.reading.now c.args.file c.args.bytes.now c.args.tokens.now _ c.requires.tokens (sym c.skip_file.ensures ∙ c.if-skip_file.true) c.nothing.ensures
