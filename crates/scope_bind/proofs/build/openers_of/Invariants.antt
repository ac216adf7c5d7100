use Rattle.scope_rules.specs.Kinds.{opens}
use Rattle.scope_rules.specs.Nodes.{kind_of}
use Rattle.scope_bind.specs.Lists.{IsListUpTo}
use Rattle.scope_bind.proofs.build.openers_of.Given as goal

abbrev pub invariant-loop-n : goal.invariant-loop-n
invariant-loop-n l = IsListUpTo (λ n. opens (kind_of l.tree n)) l.n l.openers.items
