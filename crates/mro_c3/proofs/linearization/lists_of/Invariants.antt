use Rattle.std.proofs.Common.{◌≡◌, map, take}
use Rattle.mro_c3.specs.Table.{order_at}
use Rattle.mro_c3.proofs.linearization.lists_of.Given as goal

abbrev pub invariant-loop-base : goal.invariant-loop-base
invariant-loop-base l = l.lists.items ≡ map (order_at l.orders) (take l.base-index l.row)
