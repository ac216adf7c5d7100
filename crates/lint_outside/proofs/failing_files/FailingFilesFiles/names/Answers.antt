use Rattle.std.proofs.Common.{Some, ap, ◌∙◌}
use Rattle.lint_outside.specs.MemFiles.{tree_of}
use Rattle.lint_outside.proofs.failing_files.FailingFilesFiles.names.Goals as goal

pub returns-clause-answer : goal.returns-clause-answer
returns-clause-answer c = λ tree told. c.names.ensures.answer tree (ap (λ files. Some (tree_of files)) c.fails_now.ensures.inner ∙ told)
