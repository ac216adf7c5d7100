use Rattle.flow_rules.specs.Outwards.{in_loop}
use Rattle.flow_rules.specs.Tables.{IsListUpTo}
use Rattle.flow_rules.proofs.repeated.loops_of.Given as goal

abbrev pub invariant-loop-n : goal.invariant-loop-n
invariant-loop-n l = IsListUpTo (in_loop l.tree) l.n l.loops.items
