use Rattle.std.proofs.Common.{◌≡◌, ℕ, ◌<◌, length, map, take}
use Rattle.std.specs.Prelude.{All}
use Rattle.tree_nodes.specs.Trees.{pack}
use Rattle.tree_nodes.specs.Rows.{tree_of}
use Rattle.py_grammar.specs.Tests.{as_target}
use Rattle.py_forest.specs.Tops.{Grows}
use Rattle.py_forest.proofs.targets.+as_target.Given as goal

abbrev pub decreases-as_target : goal.decreases-as_target
decreases-as_target l = l.row

abbrev pub invariant-loop-id : goal.invariant-loop-id
invariant-loop-id l = record {
  grows : Grows l.fn.builder l.builder;
  made : All (λ k. k < length l.builder) l.kids.items;
  earlier : All (λ k. k < l.fn.row) l.id-items;
  are : (tree_of l.fn.builder l.fn.row).kids ≡ pack (map (tree_of l.fn.builder) l.id-items);
  bound : map (tree_of l.builder) l.kids.items ≡ map as_target (map (tree_of l.fn.builder) (take l.id-index l.id-items));
}
