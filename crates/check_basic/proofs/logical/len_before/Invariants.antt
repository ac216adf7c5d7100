use Rattle.std.proofs.Common.{◌≡◌, ◌<◌, ◌+◌, ◌≤◌, map, length}
use Rattle.std.specs.Prelude.{All}
use Rattle.tree_nodes.specs.Trees.{count_of}
use Rattle.tree_nodes.specs.Kept.{number_of}
use Rattle.std.specs.List.{prefix_len}
use Rattle.check_basic.specs.LogicalLines.{begins_before}
use Rattle.check_basic.proofs.logical.len_before.Given as goal

abbrev pub invariant-loop-rest : goal.invariant-loop-rest
invariant-loop-rest l = record {
  made : All (λ k. k.0 < count_of l.tree) l.rest;
  within : l.len + length l.rest ≤ length l.ns;
  same : l.len + prefix_len (begins_before l.tree l.start) (map number_of l.rest) ≡ prefix_len (begins_before l.tree l.start) (map number_of l.ns);
}

abbrev pub decreases-loop-rest : goal.decreases-loop-rest
decreases-loop-rest l = length l.rest
