use Rattle.scope_rules.specs.Nodes.{below}
use Rattle.unused_names.specs.Variables.{locals_among}
use Rattle.unused_names.specs.Sets.{HasNumbers}
use Rattle.unused_names.proofs.locals.locals_scopes.Given as goal

abbrev pub invariant-loop-n : goal.invariant-loop-n
invariant-loop-n l = HasNumbers l.numbers (locals_among l.tree (below l.n))
