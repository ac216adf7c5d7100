use Rattle.std.proofs.Common.{◌≡◌, ◌<◌, map}
use Rattle.std.specs.Prelude.{All}
use Rattle.scope_rules.specs.Nodes.{below}
use Rattle.tree_nodes.specs.Trees.{count_of}
use Rattle.tree_nodes.specs.Kept.{number_of}
use Rattle.check_basic.specs.LogicalLines.{on_lines}
use Rattle.check_basic.proofs.logical.on_lines.Given as goal

abbrev pub invariant-loop-n : goal.invariant-loop-n
invariant-loop-n l = record {
  made : All (λ k. k.0 < count_of l.tree) l.all.items;
  told : map number_of l.all.items ≡ on_lines l.tree (below l.n);
}
