use Rattle.std.proofs.Common.{◌≡◌, ◌<◌, ◌≤◌, ◌+◌, map, take, length, count_by}
use Rattle.std.specs.Prelude.{All}
use Rattle.tree_nodes.specs.Trees.{count_of}
use Rattle.tree_nodes.specs.Kept.{number_of}
use Rattle.call_binding.specs.Reading.{names_among}
use Rattle.std.specs.List.{position_from}
use Rattle.scope_rules.specs.Nodes.{is_number}
use Rattle.call_binding.specs.Rule.{target}
use Rattle.call_binding.proofs.arguments.keyword_for.Given as goal

abbrev pub invariant-loop-rest : goal.invariant-loop-rest
invariant-loop-rest l = record {
  made : All (λ k. k.0 < count_of l.tree) l.rest;
  same : position_from (λ x. is_number (target l.signature.params x) l.i) l.before (names_among l.tree (map number_of l.rest)) ≡ position_from (λ x. is_number (target l.signature.params x) l.i) 0 (names_among l.tree (map number_of l.args));
  room : l.before + length l.rest ≤ length l.args;
}

abbrev pub decreases-loop-rest : goal.decreases-loop-rest
decreases-loop-rest l = length l.rest
