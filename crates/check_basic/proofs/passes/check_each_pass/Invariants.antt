use Rattle.std.proofs.Common.{◌≡◌, ◌<◌, ◌++◌, map, length}
use Rattle.std.specs.Prelude.{All}
use Rattle.tree_nodes.specs.Trees.{count_of}
use Rattle.tree_nodes.specs.Kept.{number_of}
use Rattle.check_basic.specs.TreeRules.{passes}
use Rattle.check_basic.proofs.passes.check_each_pass.Given as goal

abbrev pub invariant-loop-kid : goal.invariant-loop-kid
invariant-loop-kid l = record {
  made : All (λ k. k.0 < count_of l.tree) l.rest;
  told : l.found ++ passes l.file l.tree (map number_of l.rest) ≡ l.fn.found ++ passes l.file l.tree (map number_of l.kids);
}

abbrev pub decreases-loop-kid : goal.decreases-loop-kid
decreases-loop-kid l = length l.rest
