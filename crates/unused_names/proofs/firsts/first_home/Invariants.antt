use Rattle.unused_names.proofs.Homes.{IsAhead}
use Rattle.unused_names.proofs.firsts.first_home.Given as goal

abbrev pub invariant-outwards : goal.invariant-outwards
invariant-outwards l = IsAhead l.tree l.n.0 l.name l.s

abbrev pub decreases-outwards : goal.decreases-outwards
decreases-outwards l = l.s
