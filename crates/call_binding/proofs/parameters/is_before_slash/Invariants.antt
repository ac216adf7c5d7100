use Rattle.std.proofs.Common.{◌≡◌, ◌<◌, ◌≤◌, ◌+◌, map, take, length, count_by}
use Rattle.std.specs.Prelude.{All}
use Rattle.tree_nodes.specs.Trees.{count_of}
use Rattle.tree_nodes.specs.Kept.{number_of}
use Rattle.call_binding.specs.Reading.{is_before_slash}
use Rattle.call_binding.proofs.parameters.is_before_slash.Given as goal

abbrev pub invariant-loop-rest : goal.invariant-loop-rest
invariant-loop-rest l = record {
  made : All (λ k. k.0 < count_of l.tree) l.rest;
  same : is_before_slash l.tree l.k.0 (map number_of l.rest) ≡ is_before_slash l.tree l.k.0 (map number_of l.parts);
}

abbrev pub decreases-loop-rest : goal.decreases-loop-rest
decreases-loop-rest l = length l.rest
