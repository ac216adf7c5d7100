use Rattle.mro_c3.specs.Table.{MarksFrom}
use Rattle.mro_c3.proofs.reached.mark_reached.Given as goal

abbrev pub invariant-loop-class : goal.invariant-loop-class
invariant-loop-class l = MarksFrom l.rows l.k l.class l.marks
