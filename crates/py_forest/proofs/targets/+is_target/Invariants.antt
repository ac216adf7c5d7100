use Rattle.std.proofs.Common.{◌≡◌, map, drop}
use Rattle.tree_nodes.specs.Trees.{pack}
use Rattle.tree_nodes.specs.Rows.{tree_of}
use Rattle.py_grammar.specs.Tests.{are_targets}
use Rattle.py_forest.proofs.targets.+is_target.Given as goal

abbrev pub decreases-is_target : goal.decreases-is_target
decreases-is_target l = l.row

abbrev pub invariant-loop-kid : goal.invariant-loop-kid
invariant-loop-kid l = are_targets (pack (map (tree_of l.builder) (drop l.kid-index l.kids))) ≡ are_targets (tree_of l.builder l.row).kids
