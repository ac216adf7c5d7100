use Rattle.std.proofs.Common.{◌≡◌, ◌++◌}
use Rattle.std.specs.List.{flat_map}
use Rattle.scope_rules.specs.Nodes.{below}
use Rattle.check_names.specs.Redefined.{redefined_builtin}
use Rattle.check_names.proofs.redefined.check_redefined.Given as goal

abbrev pub invariant-loop-n : goal.invariant-loop-n
invariant-loop-n l = l.found ≡ l.fn.found ++ flat_map (redefined_builtin l.file l.tree) (below l.n)
