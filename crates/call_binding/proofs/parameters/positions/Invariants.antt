use Rattle.std.proofs.Common.{◌≡◌, ◌<◌, ◌≤◌, ◌+◌, map, take, length, count_by}
use Rattle.std.specs.Prelude.{All}
use Rattle.tree_nodes.specs.Trees.{count_of}
use Rattle.tree_nodes.specs.Kept.{number_of}
use Rattle.call_binding.specs.Reading.{parameters_among}
use Rattle.call_binding.specs.Counting.{counted}
use Rattle.call_binding.proofs.parameters.positions.Given as goal

abbrev pub invariant-loop-rest : goal.invariant-loop-rest
invariant-loop-rest l = record {
  made : All (λ k. k.0 < count_of l.tree) l.rest;
  same : l.found + counted l.left (parameters_among l.tree l.def.0 (map number_of l.rest)) ≡ counted l.first (parameters_among l.tree l.def.0 (map number_of l.parts));
  room : l.found + length l.rest ≤ length l.parts;
}

abbrev pub decreases-loop-rest : goal.decreases-loop-rest
decreases-loop-rest l = length l.rest
