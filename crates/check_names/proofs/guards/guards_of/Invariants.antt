use Rattle.scope_bind.specs.Lists.{IsListUpTo}
use Rattle.check_names.specs.Guards.{is_guard}
use Rattle.check_names.proofs.guards.guards_of.Given as goal

abbrev pub invariant-loop-n : goal.invariant-loop-n
invariant-loop-n l = IsListUpTo (is_guard l.tree) l.n l.guards.items
