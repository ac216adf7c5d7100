use Rattle.std.proofs.Common.{◌≡◌, ◌≤◌}
use Rattle.scope_rules.specs.Nodes.{below}
use Rattle.check_basic.specs.TreeRules.{count_among}
use Rattle.check_basic.proofs.tree.statements.Given as goal

abbrev pub invariant-loop-n : goal.invariant-loop-n
invariant-loop-n l = (l.count ≤ l.n) × (l.count ≡ count_among l.tree (below l.n))
