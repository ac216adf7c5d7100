use Rattle.std.proofs.Common.{◌≡◌}
use Rattle.scope_rules.specs.Nodes.{below}
use Rattle.unused_names.specs.UnusedRules.{messages_among}
use Rattle.unused_names.proofs.unused.check_unused.Given as goal

abbrev pub invariant-loop-n : goal.invariant-loop-n
invariant-loop-n l = l.found ≡ messages_among l.file l.is_package l.tree (below l.n)
