use Rattle.std.proofs.Common.{◌≡◌, ◌<◌, map, length}
use Rattle.std.specs.Prelude.{All}
use Rattle.tree_nodes.specs.Trees.{count_of}
use Rattle.tree_nodes.specs.Kept.{number_of}
use Rattle.unused_names.specs.Arguments.{is_first_parameter}
use Rattle.unused_names.proofs.arguments.is_first_of.Given as goal

abbrev pub invariant-loop-rest : goal.invariant-loop-rest
invariant-loop-rest l = record {
  made : All (λ k. k.0 < count_of l.tree) l.rest;
  same : is_first_parameter l.tree (map number_of l.rest) l.n.0 ≡ is_first_parameter l.tree (map number_of l.kids) l.n.0;
}

abbrev pub decreases-loop-rest : goal.decreases-loop-rest
decreases-loop-rest l = length l.rest
