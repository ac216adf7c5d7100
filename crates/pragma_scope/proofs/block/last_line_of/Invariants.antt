use Rattle.std.proofs.Common.{◌≡◌, ◌<◌, map, length}
use Rattle.std.specs.Prelude.{All, fold, if◌then◌else◌}
use Rattle.tree_nodes.specs.Trees.{count_of, node_at}
use Rattle.tree_nodes.specs.Kept.{number_of}
use Rattle.scope_rules.specs.Nodes.{kind_of}
use Rattle.pragma_scope.specs.Blocks.{last_line_of}
use Rattle.pragma_scope.specs.Kinds.{is_in_block}
use Rattle.pragma_scope.proofs.block.last_line_of.Given as goal

abbrev pub invariant-loop-rest : goal.invariant-loop-rest
invariant-loop-rest l = record {
  made : All (λ k. k.0 < count_of l.tree) l.rest;
  same : fold (λ last k. if is_in_block (kind_of l.tree k) then (node_at l.tree k).end_line else last) l.last (map number_of l.rest) ≡ last_line_of l.tree (map number_of l.kids);
}

abbrev pub decreases-loop-rest : goal.decreases-loop-rest
decreases-loop-rest l = length l.rest
