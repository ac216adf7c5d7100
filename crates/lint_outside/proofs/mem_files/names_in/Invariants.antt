use Rattle.std.proofs.Common.{◌≡◌, ◌≤◌, ◌++◌, vec_len}
use Rattle.std.specs.BTreeMap.{keys}
use Rattle.lint_outside.specs.MemFiles.{names_in}
use Rattle.lint_outside.proofs.mem_files.names_in.Given as goal

abbrev pub invariant-loop-path : goal.invariant-loop-path
invariant-loop-path l = record {
  few : vec_len l.names ≤ l.most;
  found : l.names.items ++ names_in l.folder l.path-iterator ≡ names_in l.folder (keys l.held);
}
