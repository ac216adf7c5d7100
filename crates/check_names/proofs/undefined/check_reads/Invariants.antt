use Rattle.std.proofs.Common.{◌≡◌, ◌++◌}
use Rattle.std.specs.List.{flat_map}
use Rattle.scope_rules.specs.Nodes.{below}
use Rattle.check_names.specs.Undefined.{undefined_variable}
use Rattle.check_names.proofs.undefined.check_reads.Given as goal

abbrev pub invariant-loop-n : goal.invariant-loop-n
invariant-loop-n l = l.found ≡ l.fn.found ++ flat_map (undefined_variable l.file l.additional l.tree) (below l.n)
