use Rattle.std.proofs.Common.{◌≡◌, ◌<◌, ◌≤◌, ◌+◌, map, take, length, count_by}
use Rattle.std.specs.Prelude.{All}
use Rattle.tree_nodes.specs.Trees.{count_of}
use Rattle.tree_nodes.specs.Kept.{number_of}
use Rattle.call_binding.specs.Reading.{plain_among}
use Rattle.std.specs.Prelude.{slice_get}
use Rattle.call_binding.proofs.arguments.plain_node.Given as goal

abbrev pub invariant-loop-rest : goal.invariant-loop-rest
invariant-loop-rest l = record {
  made : All (λ k. k.0 < count_of l.tree) l.rest;
  same : slice_get (plain_among l.tree (map number_of l.rest)) l.before ≡ slice_get (plain_among l.tree (map number_of l.args)) l.n;
  counted : l.before < length (plain_among l.tree (map number_of l.rest));
}

abbrev pub decreases-loop-rest : goal.decreases-loop-rest
decreases-loop-rest l = length l.rest
