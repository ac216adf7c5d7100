use Rattle.std.proofs.Common.{ap, ◌∙◌}
use Rattle.std.specs.FinMap.{insert}
use Rattle.lint_outside.proofs.MapOf.{insert-map_of}
use Rattle.lint_outside.proofs.mem_files.MemFiles.put.Goals as goal

pub returns-clause-ok : goal.returns-clause-ok
returns-clause-ok c = insert-map_of c.self.inside.placed c.insert.new.self c.args.path c.args.placed c.in_ok-insert.ensures.updates ∙ ap (λ m. insert m c.args.path c.args.placed) c.self.view_is
