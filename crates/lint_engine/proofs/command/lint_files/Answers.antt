use Rattle.lint_engine.proofs.PartRead.{gathered_part}
use Rattle.lint_engine.proofs.command.lint_files.Goals as goal

pub returns-in_default-report_of-clause-part_read : goal.returns-in_default-report_of-clause-part_read
returns-in_default-report_of-clause-part_read g c = λ tree e. gathered_part tree _ _ _ _ c.args.options.now c.args.args.now c.in-Ok.list (c.in-Ok.ensures.read tree e)

pub returns-clause-part_read : goal.returns-clause-part_read
returns-clause-part_read g c = λ tree e. gathered_part tree _ _ _ _ c.args.options.now c.args.args.now c.in-Ok.list (c.in-Ok.ensures.read tree e)
