use Rattle.std.proofs.Common.{◌≡◌, ◌++◌}
use Rattle.std.specs.List.{flat_map}
use Rattle.scope_rules.specs.Nodes.{below}
use Rattle.check_names.specs.Wildcards.{wildcard_import}
use Rattle.check_names.proofs.wildcards.check_imports.Given as goal

abbrev pub invariant-loop-n : goal.invariant-loop-n
invariant-loop-n l = l.found ≡ l.fn.found ++ flat_map (wildcard_import l.file l.tree) (below l.n)
