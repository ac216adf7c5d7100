use Rattle.std.proofs.Common.{◌≡◌, ◌<◌}
use Rattle.tree_nodes.specs.Trees.{count_of}
use Rattle.scope_rules.specs.Binding.{beyond_comprehensions}
use Rattle.check_names.proofs.asked.beyond_comprehensions.Given as goal

abbrev pub invariant-outwards : goal.invariant-outwards
invariant-outwards l = record {
  made : l.s.0 < count_of l.tree;
  same : beyond_comprehensions l.tree l.s.0 ≡ beyond_comprehensions l.tree l.fn.scope.0;
}

abbrev pub decreases-outwards : goal.decreases-outwards
decreases-outwards l = l.s.0
