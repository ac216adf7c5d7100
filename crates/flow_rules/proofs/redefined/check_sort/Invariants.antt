use Rattle.std.proofs.Common.{◌<◌, ◌++◌, [], map, length}
use Rattle.std.specs.Prelude.{All}
use Rattle.tree_nodes.specs.Trees.{count_of}
use Rattle.tree_nodes.specs.Kept.{number_of}
use Rattle.flow_rules.specs.Redefined.{redefined_behind}
use Rattle.flow_rules.proofs.RedefinedLaws.{IsTelling}
use Rattle.flow_rules.proofs.redefined.check_sort.Given as goal

abbrev pub invariant-loop-n : goal.invariant-loop-n
invariant-loop-n l = record {
  made : All (λ k. k.0 < count_of l.tree) l.rest;
  telling : IsTelling l.sort l.file l.tree l.lines (map number_of l.rest) l.found (l.fn.found ++ redefined_behind l.sort l.file l.tree [] (map number_of l.statements));
}

abbrev pub decreases-loop-n : goal.decreases-loop-n
decreases-loop-n l = length l.rest
