use Rattle.std.proofs.Common.{◌≡◌, fold, take, []}
use Rattle.file_list.specs.Asked.{Asks}
use Rattle.file_list.specs.Walked.{with_argument}
use Rattle.file_list.proofs.gathering.found_of.Given as goal

abbrev pub invariant-loop-argument : goal.invariant-loop-argument
invariant-loop-argument g l = record {
  asks : Asks (g.F.Files.held l.initial.files) (g.F.Files.faults l.initial.files) (g.F.Files.faults l.files) (g.F.Files.failed l.initial.files) (g.F.Files.failed l.files) l.initial.known l.known (λ answers. fold (with_argument answers l.ignore l.recursive) [] (take l.argument-index l.args)) l.findings;
  held : g.F.Files.held l.files ≡ g.F.Files.held l.initial.files;
}
