use Rattle.scope_bind.specs.Lists.{IsListUpTo}
use Rattle.unused_names.specs.Arguments.{is_silent}
use Rattle.unused_names.proofs.bodies.silent_where.Given as goal

abbrev pub invariant-loop-n : goal.invariant-loop-n
invariant-loop-n l = IsListUpTo (is_silent l.tree) l.n l.silent.items
