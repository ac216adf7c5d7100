use Rattle.std.specs.Prelude.{codes}
use Rattle.std.proofs.lemmas.Str.Pattern.{ends_text}
use Rattle.file_list.proofs.paths.is_module_file.Goals as goal

pub returns : goal.returns
returns c = ends_text c.ends_with.result (codes ".py") c.args.path.now c.ends_with.ensures.cases
