use Rattle.std.proofs.Common.{take, ◌∷◌, ◌<◌, [], get_or, length, set, true, sym, subst}
use Rattle.std.proofs.lemmas.List.{take_more}
use Rattle.mro_c3.proofs.MarkLaws.{Marks-nil, Marks-then, Marks-set}
use Rattle.mro_c3.proofs.reached.mark.Goals as goal

pub loop-class-init : goal.loop-class-init
loop-class-init c = Marks-nil c.args.marks.now

pub loop-class-preserved : goal.loop-class-preserved
loop-class-preserved c =
    let below : get_or c.args.classes.now c.loop-class.class-index 0 < length c.loop-class.marks =
    subst (λ size. get_or c.args.classes.now c.loop-class.class-index 0 < size) (sym c.loop-class.auto.marks) (c.requires c.loop-class.class-index 0 c.loop-class-test.true) in
    rw (take_more c.args.classes.now c.loop-class.class-index 0 c.loop-class-test.true)
    (Marks-then (take c.loop-class.class-index c.args.classes.now) (get_or c.args.classes.now c.loop-class.class-index 0 ∷ []) c.args.marks.now c.loop-class.marks
    (set c.loop-class.marks (get_or c.args.classes.now c.loop-class.class-index 0) true) c.loop-class.invariant
    (Marks-set c.loop-class.marks (get_or c.args.classes.now c.loop-class.class-index 0) below))
