use Rattle.std.proofs.Common.{◌≡◌, ◌<◌, drop}
use Rattle.std.specs.List.{find}
use Rattle.tree_nodes.specs.Trees.{count_of}
use Rattle.scope_rules.specs.Places.{chain}
use Rattle.scope_rules.specs.Declaring.{is_owner, owner_outside}
use Rattle.scope_bind.proofs.homes.owner_outside.Given as goal

abbrev pub invariant-outwards : goal.invariant-outwards
invariant-outwards l = (l.s < count_of l.tree) × (find (is_owner l.tree l.name) (drop 1 (chain l.tree l.s)) ≡ owner_outside l.tree l.scope l.name)

abbrev pub decreases-outwards : goal.decreases-outwards
decreases-outwards l = l.s
