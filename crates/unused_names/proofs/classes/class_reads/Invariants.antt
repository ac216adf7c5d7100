use Rattle.scope_rules.specs.Nodes.{below}
use Rattle.unused_names.specs.Reads.{class_reads_among}
use Rattle.unused_names.specs.Sets.{HasNames}
use Rattle.unused_names.proofs.classes.class_reads.Given as goal

abbrev pub invariant-loop-n : goal.invariant-loop-n
invariant-loop-n l = HasNames l.names (class_reads_among l.tree (below l.n))
