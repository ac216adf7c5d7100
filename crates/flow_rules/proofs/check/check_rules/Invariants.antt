use Rattle.std.proofs.Common.{◌≡◌, ◌++◌, length}
use Rattle.flow_rules.specs.FlowRules.{said_by_all}
use Rattle.flow_rules.proofs.check.check_rules.Given as goal

abbrev pub invariant-loop-rule : goal.invariant-loop-rule
invariant-loop-rule l = l.found ++ said_by_all l.options l.file l.tree l.rest ≡ l.fn.found ++ said_by_all l.options l.file l.tree l.rules

abbrev pub decreases-loop-rule : goal.decreases-loop-rule
decreases-loop-rule l = length l.rest
