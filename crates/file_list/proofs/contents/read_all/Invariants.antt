use Rattle.std.proofs.Common.{◌≡◌, ◌≤◌, take, length}
use Rattle.file_list.specs.Contents.{Reads}
use Rattle.file_list.specs.Gathered.{bytes_in_all, most_bytes_in_all}
use Rattle.file_list.proofs.contents.read_all.Given as goal

abbrev pub invariant-loop-f : goal.invariant-loop-f
invariant-loop-f g l = record {
  reads : Reads (g.F.Files.held l.initial.files) (g.F.Files.faults l.initial.files) (g.F.Files.faults l.files) (g.F.Files.failed l.initial.files) (g.F.Files.failed l.files) (take l.f-index l.found) l.reading;
  held : g.F.Files.held l.files ≡ g.F.Files.held l.initial.files;
  later : g.F.Files.faults l.initial.files ≤ g.F.Files.faults l.files;
  bytes : l.so_far ≡ bytes_in_all l.reading;
}
