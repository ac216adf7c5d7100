use Rattle.std.proofs.Common.{◌≡◌, ◌<◌, ◌≤◌, ◌+◌, map, take, length, count_by}
use Rattle.std.specs.Prelude.{All}
use Rattle.tree_nodes.specs.Trees.{count_of}
use Rattle.tree_nodes.specs.Kept.{number_of}
use Rattle.call_binding.specs.Reading.{parameters_among}
use Rattle.call_binding.specs.Parameters.{may_take}
use Rattle.std.specs.List.{position_from}
use Rattle.call_binding.proofs.parameters.target.Given as goal

abbrev pub invariant-loop-rest : goal.invariant-loop-rest
invariant-loop-rest l = record {
  made : All (λ k. k.0 < count_of l.tree) l.rest;
  same : position_from (may_take l.keyword) l.before (parameters_among l.tree l.def.0 (map number_of l.rest)) ≡ position_from (may_take l.keyword) 0 (parameters_among l.tree l.def.0 (map number_of l.parts));
  room : l.before + length l.rest ≤ length l.parts;
}

abbrev pub decreases-loop-rest : goal.decreases-loop-rest
decreases-loop-rest l = length l.rest
