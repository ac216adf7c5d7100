use Rattle.scope_rules.specs.Mangling.{class_from}
use Rattle.scope_bind.specs.Lists.{IsListUpTo}
use Rattle.scope_bind.proofs.classes.classes_of.Given as goal

abbrev pub invariant-loop-s : goal.invariant-loop-s
invariant-loop-s l = IsListUpTo (class_from l.tree) l.s l.classes.items
