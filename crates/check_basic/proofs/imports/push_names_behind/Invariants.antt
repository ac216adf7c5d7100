use Rattle.std.proofs.Common.{◌≡◌, ◌<◌, ◌++◌, map, length}
use Rattle.std.specs.Prelude.{All}
use Rattle.tree_nodes.specs.Trees.{count_of}
use Rattle.tree_nodes.specs.Kept.{number_of}
use Rattle.std.specs.Prelude.{string_bytes}
use Rattle.check_basic.specs.TreeRules.{names_behind}
use Rattle.check_basic.proofs.imports.push_names_behind.Given as goal

abbrev pub invariant-loop-kid : goal.invariant-loop-kid
invariant-loop-kid l = record {
  made : All (λ k. k.0 < count_of l.tree) l.rest;
  told : string_bytes l.text ++ names_behind l.tree (map number_of l.rest) ≡ string_bytes l.fn.text ++ names_behind l.tree (map number_of l.kids);
}

abbrev pub decreases-loop-kid : goal.decreases-loop-kid
decreases-loop-kid l = length l.rest
