use Rattle.std.proofs.Common.{rules}
use Rattle.lint_outside.proofs.TreeOf.{names_answer}
use Rattle.lint_outside.proofs.mem_files.MemFilesFiles.names.Goals as goal

pub returns-clause-answer : goal.returns-clause-answer
returns-clause-answer c = names_answer c.args.self.now c.self.inside.placed c.self.view_is c.args.path.now c.args.most c.in_ok-listing.listing c.names_in.ensures.ordered c.requires (search rules)
