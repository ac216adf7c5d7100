use Rattle.std.proofs.Common.{◌≡◌, ◌<◌}
use Rattle.tree_nodes.specs.Trees.{count_of}
use Rattle.call_binding.specs.Reading.{is_in_class}
use Rattle.call_binding.proofs.places.is_in_class.Given as goal

abbrev pub invariant-loop-p : goal.invariant-loop-p
invariant-loop-p l = record {
  made : l.below.0 < count_of l.tree;
  same : is_in_class l.tree l.below.0 ≡ is_in_class l.tree l.fn.n.0;
}

abbrev pub decreases-loop-p : goal.decreases-loop-p
decreases-loop-p l = l.below.0
