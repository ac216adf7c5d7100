use Rattle.scope_rules.specs.Places.{around}
use Rattle.scope_bind.specs.Lists.{IsListUpTo}
use Rattle.scope_bind.proofs.places.places_of.Given as goal

abbrev pub invariant-loop-n : goal.invariant-loop-n
invariant-loop-n l = IsListUpTo (around l.tree) l.n l.places.items
