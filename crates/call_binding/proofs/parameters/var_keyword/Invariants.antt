use Rattle.std.proofs.Common.{◌≡◌, ◌<◌, ◌≤◌, ◌+◌, map, take, length, count_by}
use Rattle.std.specs.Prelude.{All}
use Rattle.tree_nodes.specs.Trees.{count_of}
use Rattle.tree_nodes.specs.Kept.{number_of}
use Rattle.call_binding.specs.Reading.{parameters_among}
use Rattle.call_binding.specs.Parameters.{is_var_keyword}
use Rattle.std.specs.List.{position_from}
use Rattle.call_binding.proofs.parameters.var_keyword.Given as goal

abbrev pub invariant-loop-rest : goal.invariant-loop-rest
invariant-loop-rest l = record {
  made : All (λ k. k.0 < count_of l.tree) l.rest;
  same : position_from (λ p. is_var_keyword p.kind) l.before (parameters_among l.tree l.def.0 (map number_of l.rest)) ≡ position_from (λ p. is_var_keyword p.kind) 0 (parameters_among l.tree l.def.0 (map number_of l.parts));
  room : l.before + length l.rest ≤ length l.parts;
}

abbrev pub decreases-loop-rest : goal.decreases-loop-rest
decreases-loop-rest l = length l.rest
