use Rattle.scope_rules.specs.Binding.{makes_local}
use Rattle.scope_bind.specs.Lists.{IsListUpTo}
use Rattle.scope_bind.proofs.spelling.bound_of.Given as goal

abbrev pub invariant-loop-n : goal.invariant-loop-n
invariant-loop-n l = IsListUpTo (makes_local l.tree) l.n l.bound.items
