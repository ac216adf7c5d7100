use Rattle.std.proofs.Common.{◌≡◌, ◌++◌}
use Rattle.std.specs.List.{flat_map}
use Rattle.scope_rules.specs.Nodes.{below}
use Rattle.check_names.specs.Locals.{too_many}
use Rattle.check_names.proofs.locals.check_locals.Given as goal

abbrev pub invariant-loop-n : goal.invariant-loop-n
invariant-loop-n l = l.found ≡ l.fn.found ++ flat_map (too_many l.file l.most l.tree) (below l.n)
