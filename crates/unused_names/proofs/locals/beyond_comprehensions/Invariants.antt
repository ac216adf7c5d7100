use Rattle.std.proofs.Common.{◌≡◌, ◌<◌}
use Rattle.tree_nodes.specs.Trees.{count_of}
use Rattle.scope_rules.specs.Binding.{beyond_comprehensions}
use Rattle.unused_names.proofs.locals.beyond_comprehensions.Given as goal

abbrev pub invariant-outwards : goal.invariant-outwards
invariant-outwards l = (l.s < count_of l.tree) × (beyond_comprehensions l.tree l.s ≡ beyond_comprehensions l.tree l.scope)

abbrev pub decreases-outwards : goal.decreases-outwards
decreases-outwards l = l.s
