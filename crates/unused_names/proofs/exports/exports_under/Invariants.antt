use Rattle.scope_rules.specs.Nodes.{below}
use Rattle.unused_names.specs.Exports.{exported_among}
use Rattle.unused_names.specs.Sets.{HasNames}
use Rattle.unused_names.proofs.exports.exports_under.Given as goal

abbrev pub invariant-loop-n : goal.invariant-loop-n
invariant-loop-n l = HasNames l.names (exported_among l.tree (below l.n))
