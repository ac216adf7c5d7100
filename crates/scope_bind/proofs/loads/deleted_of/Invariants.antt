use Rattle.scope_rules.specs.Answers.{is_deleted}
use Rattle.scope_bind.specs.Lists.{IsListUpTo}
use Rattle.scope_bind.proofs.loads.deleted_of.Given as goal

abbrev pub invariant-loop-n : goal.invariant-loop-n
invariant-loop-n l = IsListUpTo (is_deleted l.tree) l.n l.deleted.items
