use Rattle.std.proofs.Common.{◌≡◌, ◌-◌, map, drop, nat_le}
use Rattle.tree_nodes.specs.Trees.{pack}
use Rattle.tree_nodes.specs.Rows.{tree_of}
use Rattle.py_language.specs.Nesting.{nesting_in}
use Rattle.py_grammar.specs.Weights.{weight}
use Rattle.parse_line.proofs.nesting.+is_within.Given as goal

abbrev pub decreases-is_within : goal.decreases-is_within
decreases-is_within l = l.row

abbrev pub invariant-loop-kid : goal.invariant-loop-kid
invariant-loop-kid l = nat_le (nesting_in weight (pack (map (tree_of l.builder) (drop l.kid-index l.kids)))) (l.left - l.own) ≡ nat_le (nesting_in weight (tree_of l.builder l.row).kids) (l.left - l.own)
