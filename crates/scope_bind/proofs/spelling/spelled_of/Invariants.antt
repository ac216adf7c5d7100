use Rattle.scope_rules.specs.Mangling.{spelled}
use Rattle.scope_bind.specs.Lists.{IsListUpTo}
use Rattle.scope_bind.proofs.spelling.spelled_of.Given as goal

abbrev pub invariant-loop-n : goal.invariant-loop-n
invariant-loop-n l = IsListUpTo (spelled l.tree) l.n l.names.items
