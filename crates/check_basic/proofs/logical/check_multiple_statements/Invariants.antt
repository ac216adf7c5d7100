use Rattle.std.proofs.Common.{◌≡◌, ◌<◌, ◌++◌, map, length}
use Rattle.std.specs.Prelude.{All}
use Rattle.tree_nodes.specs.Trees.{count_of}
use Rattle.tree_nodes.specs.Kept.{number_of}
use Rattle.check_basic.specs.LogicalLines.{seconds, cut, starts, multiple_statements}
use Rattle.check_basic.proofs.logical.check_multiple_statements.Given as goal

abbrev pub invariant-loop-line : goal.invariant-loop-line
invariant-loop-line l = record {
  made : All (λ k. k.0 < count_of l.tree) l.rest;
  told : l.found ++ seconds l.file l.tree (cut l.tree (starts l.tokens l.lines) (map number_of l.rest)) ≡ l.fn.found ++ multiple_statements l.file l.tokens l.tree;
}

abbrev pub decreases-loop-line : goal.decreases-loop-line
decreases-loop-line l = length l.lines
