use Rattle.scope_bind.proofs.OutwardLaws.{IsOnTheWay}
use Rattle.scope_bind.proofs.reading.end_of.Given as goal

abbrev pub invariant-outwards : goal.invariant-outwards
invariant-outwards l = IsOnTheWay l.tree l.own l.name l.s l.is_near

abbrev pub decreases-outwards : goal.decreases-outwards
decreases-outwards l = l.s
