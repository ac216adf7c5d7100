use Rattle.std.proofs.Common.{take}
use Rattle.mro_c3.specs.Table.{Marks}
use Rattle.mro_c3.proofs.reached.mark.Given as goal

abbrev pub invariant-loop-class : goal.invariant-loop-class
invariant-loop-class l = Marks (take l.class-index l.classes) l.initial.marks l.marks
