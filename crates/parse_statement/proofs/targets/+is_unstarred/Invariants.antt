use Rattle.std.proofs.Common.{◌≡◌, map, drop}
use Rattle.tree_nodes.specs.Trees.{pack}
use Rattle.tree_nodes.specs.Rows.{tree_of}
use Rattle.py_grammar.specs.Tests.{are_unstarred}
use Rattle.parse_statement.proofs.targets.+is_unstarred.Given as goal

abbrev pub decreases-is_unstarred : goal.decreases-is_unstarred
decreases-is_unstarred l = l.row

abbrev pub invariant-loop-kid : goal.invariant-loop-kid
invariant-loop-kid l = are_unstarred (pack (map (tree_of l.builder) (drop l.kid-index l.kids))) ≡ are_unstarred (tree_of l.builder l.row).kids
