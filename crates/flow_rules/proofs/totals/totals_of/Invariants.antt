use Rattle.flow_rules.specs.Tables.{AreTotalled}
use Rattle.flow_rules.proofs.totals.totals_of.Given as goal

abbrev pub invariant-loop-n : goal.invariant-loop-n
invariant-loop-n l = AreTotalled l.size l.tree l.n l.totals.items
