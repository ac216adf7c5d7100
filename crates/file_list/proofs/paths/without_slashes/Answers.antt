use Rattle.file_list.proofs.Slashes.{slashes_trimmed}
use Rattle.file_list.proofs.paths.without_slashes.Goals as goal

pub returns : goal.returns
returns c = slashes_trimmed c.args.path.now c.trim_end_matches.result.now c.trim_end_matches.ensures.matches
