use Rattle.std.proofs.Common.{◌≡◌, ◌<◌, ◌++◌, map, length}
use Rattle.std.specs.Prelude.{All}
use Rattle.tree_nodes.specs.Trees.{count_of}
use Rattle.tree_nodes.specs.Kept.{number_of}
use Rattle.unused_names.specs.Imports.{imports_among}
use Rattle.unused_names.proofs.imports.check_aliases.Given as goal

abbrev pub invariant-loop-node : goal.invariant-loop-node
invariant-loop-node l = record {
  made : All (λ k. k.0 < count_of l.tree) l.rest;
  told : l.found ++ imports_among l.file l.tree (map number_of l.rest) ≡ l.fn.found ++ imports_among l.file l.tree (map number_of l.nodes);
}

abbrev pub decreases-loop-node : goal.decreases-loop-node
decreases-loop-node l = length l.rest
