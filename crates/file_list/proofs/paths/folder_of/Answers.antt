use Rattle.std.proofs.Common.{sym}
use Rattle.file_list.proofs.Slashes.{folder_split, not_split, no_folder}
use Rattle.file_list.proofs.paths.folder_of.Goals as goal

pub returns-in-Some : goal.returns-in-Some
returns-in-Some c = folder_split c.args.path.now c.in-Some.folder.now c.in-Some.field-0-1.now c.in-Some.ensures.cases

pub returns-in-None : goal.returns-in-None
returns-in-None c = sym (no_folder c.args.path.now (not_split c.args.path.now c.in-None.ensures.cases))
