use Rattle.scope_rules.specs.Reading.{answer_of}
use Rattle.scope_bind.specs.Lists.{IsListUpTo}
use Rattle.scope_bind.proofs.reading.answers_of.Given as goal

abbrev pub invariant-loop-n : goal.invariant-loop-n
invariant-loop-n l = IsListUpTo (answer_of l.tree) l.n l.answers.items
