use Rattle.scope_bind.specs.Lists.{IsListUpTo}
use Rattle.unused_names.specs.Arguments.{has_bases}
use Rattle.unused_names.proofs.bodies.based_of.Given as goal

abbrev pub invariant-loop-n : goal.invariant-loop-n
invariant-loop-n l = IsListUpTo (has_bases l.tree) l.n l.based.items
