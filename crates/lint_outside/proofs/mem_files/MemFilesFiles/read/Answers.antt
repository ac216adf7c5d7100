use Rattle.std.proofs.Common.{rules}
use Rattle.lint_outside.proofs.TreeOf.{read_answer}
use Rattle.lint_outside.proofs.mem_files.MemFilesFiles.read.Goals as goal

pub returns-clause-answer : goal.returns-clause-answer
returns-clause-answer c = read_answer c.args.self.now c.self.inside.placed c.self.view_is c.args.path.now c.args.most c.in_ok-content.content (search rules)
