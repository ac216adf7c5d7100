use Rattle.std.proofs.Common.{◌≡◌, map, filter, not, take}
use Rattle.std.specs.List.{list_any}
use Rattle.std.specs.Str.{bytes_eq}
use Rattle.file_list.specs.Paths.{joined}
use Rattle.file_list.proofs.walking.kept_paths.Given as goal

abbrev pub invariant-loop-name : goal.invariant-loop-name
invariant-loop-name l = l.paths.items ≡ map (joined l.folder) (filter (λ name. not (list_any (bytes_eq name) l.ignore)) (take l.name-index l.names))
