use Rattle.std.proofs.Common.{◌∙◌, sym}
use Rattle.file_list.specs.Contents.{Finds}
use Rattle.file_list.proofs.Gathers.{gathers, gathers_failed, gathers_few}
use Rattle.file_list.proofs.gathering.gather.Goals as goal

pub read_all-requires-clause-files : goal.read_all-requires-clause-files
read_all-requires-clause-files g c = λ tree told. rw c.as_slice.ensures.value (c.in_ok-found.ensures.finds.told tree (sym c.find_paths.ensures.held ∙ told)).files

pub returns-clause-read : goal.returns-clause-read
returns-clause-read g c =
    let finds : Finds (g.F.Files.held c.args.files.now) (g.F.Files.faults c.args.files.now) (g.F.Files.faults c.find_paths.new.files) (g.F.Files.failed c.args.files.now) (g.F.Files.failed c.find_paths.new.files) c.args.options.now c.args.args.now c.as_slice.result.now = rw c.as_slice.ensures.value c.in_ok-found.ensures.finds in
    gathers _ _ _ _ _ _ _ _ _ _ _ _ c.find_paths.ensures.held finds c.in_ok-read_all.ensures.reads
