use Rattle.std.proofs.Common.{◌≡◌, ◌++◌}
use Rattle.std.specs.List.{flat_map}
use Rattle.scope_rules.specs.Nodes.{below}
use Rattle.flow_rules.specs.FlowRules.{said_of}
use Rattle.flow_rules.proofs.check.check_rule.Given as goal

abbrev pub invariant-loop-n : goal.invariant-loop-n
invariant-loop-n l = l.found ≡ l.fn.found ++ flat_map (said_of l.options l.file l.tree l.rule) (below l.n)
