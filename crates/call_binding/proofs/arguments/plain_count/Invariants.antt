use Rattle.std.proofs.Common.{◌≡◌, ◌<◌, ◌≤◌, ◌+◌, map, take, length, count_by}
use Rattle.std.specs.Prelude.{All}
use Rattle.tree_nodes.specs.Trees.{count_of}
use Rattle.tree_nodes.specs.Kept.{number_of}
use Rattle.call_binding.specs.Reading.{plain_among}
use Rattle.call_binding.proofs.arguments.plain_count.Given as goal

abbrev pub invariant-loop-rest : goal.invariant-loop-rest
invariant-loop-rest l = record {
  made : All (λ k. k.0 < count_of l.tree) l.rest;
  same : l.found + length (plain_among l.tree (map number_of l.rest)) ≡ length (plain_among l.tree (map number_of l.args));
  room : l.found + length l.rest ≤ length l.args;
}

abbrev pub decreases-loop-rest : goal.decreases-loop-rest
decreases-loop-rest l = length l.rest
