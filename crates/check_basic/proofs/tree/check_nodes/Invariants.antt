use Rattle.std.proofs.Common.{◌≡◌, ◌++◌}
use Rattle.scope_rules.specs.Nodes.{below}
use Rattle.check_basic.specs.TreeRules.{nodes_messages}
use Rattle.check_basic.proofs.tree.check_nodes.Given as goal

abbrev pub invariant-loop-n : goal.invariant-loop-n
invariant-loop-n l = l.found ≡ l.fn.found ++ nodes_messages l.file l.tree (below l.n)
