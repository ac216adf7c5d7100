use Rattle.std.proofs.Common.{rules}
use Rattle.lint_outside.proofs.TreeOf.{look_answer}
use Rattle.lint_outside.proofs.mem_files.MemFilesFiles.look.Goals as goal

pub returns-clause-answer : goal.returns-clause-answer
returns-clause-answer c = look_answer c.args.self.now c.self.inside.placed c.self.view_is c.args.path.now c.kind_of.result (search rules)
