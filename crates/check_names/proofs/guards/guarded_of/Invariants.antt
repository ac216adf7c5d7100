use Rattle.scope_bind.specs.Lists.{IsListUpTo}
use Rattle.check_names.specs.Guards.{is_guarded}
use Rattle.check_names.proofs.guards.guarded_of.Given as goal

abbrev pub invariant-loop-n : goal.invariant-loop-n
invariant-loop-n l = IsListUpTo (is_guarded l.tree) l.n l.guarded.items
