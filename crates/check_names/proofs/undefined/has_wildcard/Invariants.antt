use Rattle.std.proofs.Common.{◌≡◌}
use Rattle.std.specs.List.{list_any}
use Rattle.scope_rules.specs.Nodes.{kind_of, below}
use Rattle.check_names.specs.Kinds.{is_wildcard}
use Rattle.check_names.proofs.undefined.has_wildcard.Given as goal

abbrev pub invariant-loop-n : goal.invariant-loop-n
invariant-loop-n l = l.found ≡ list_any (λ n. is_wildcard (kind_of l.tree n)) (below l.n)
