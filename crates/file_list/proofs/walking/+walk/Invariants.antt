use Rattle.std.proofs.Common.{◌≡◌, ◌-◌, fold, take}
use Rattle.file_list.specs.Asked.{Asks}
use Rattle.file_list.proofs.Walks.{visit}
use Rattle.file_list.proofs.walking.+walk.Given as goal

abbrev pub decreases-walk : goal.decreases-walk
decreases-walk g l = l.levels

abbrev pub invariant-loop-path : goal.invariant-loop-path
invariant-loop-path g l = record {
  asks : Asks (g.F.Files.held l.initial.files) (g.F.Files.faults l.initial.files) (g.F.Files.faults l.files) (g.F.Files.failed l.initial.files) (g.F.Files.failed l.files) l.initial.known l.known (λ answers. fold (visit answers l.ignore l.recursive (l.levels - 1)) l.initial.findings (take l.path-index l.path-items)) l.findings;
  held : g.F.Files.held l.files ≡ g.F.Files.held l.initial.files;
}
