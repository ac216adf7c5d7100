use Rattle.std.proofs.Common.{◌≡◌, ◌<◌, ◌++◌, map, length}
use Rattle.std.specs.Prelude.{All}
use Rattle.tree_nodes.specs.Trees.{count_of}
use Rattle.tree_nodes.specs.Kept.{number_of}
use Rattle.flow_rules.specs.Unreachable.{unreachable_behind}
use Rattle.flow_rules.proofs.unreachable.check_each.Given as goal

abbrev pub invariant-loop-n : goal.invariant-loop-n
invariant-loop-n l = record {
  made : All (λ k. k.0 < count_of l.tree) l.rest;
  last : l.before.0 < count_of l.tree;
  told : l.found ++ unreachable_behind l.file l.tree l.before.0 (map number_of l.rest) ≡ l.fn.found ++ unreachable_behind l.file l.tree l.fn.first.0 (map number_of l.behind);
}

abbrev pub decreases-loop-n : goal.decreases-loop-n
decreases-loop-n l = length l.rest
