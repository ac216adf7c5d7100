use Rattle.std.proofs.Common.{sym}
use Rattle.file_list.proofs.Slashes.{part_split, not_split, whole_part}
use Rattle.file_list.proofs.paths.last_part.Goals as goal

pub returns-in-Some : goal.returns-in-Some
returns-in-Some c = part_split c.args.path.now c.in-Some.field-0-0.now c.in-Some.name.now c.in-Some.ensures.cases

pub returns-in-None : goal.returns-in-None
returns-in-None c = sym (whole_part c.args.path.now (not_split c.args.path.now c.in-None.ensures.cases))
