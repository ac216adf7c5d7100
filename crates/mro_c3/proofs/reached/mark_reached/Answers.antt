use Rattle.std.proofs.Common.{◌≡◌, ◌+◌, ◌-◌, arith, subst, ◌∙◌}
use Rattle.mro_c3.specs.Order.{bases}
use Rattle.mro_c3.specs.Table.{Marks, MarksFrom}
use Rattle.mro_c3.proofs.MarkLaws.{MarksFrom-start, MarksFrom-marked, row_is, row_below}
use Rattle.mro_c3.proofs.reached.mark_reached.Goals as goal

pub loop-class-init : goal.loop-class-init
loop-class-init c = MarksFrom-start c.args.rows.now c.requires.below c.args.k c.args.marks.now c.requires.unmarked

pub mark-requires : goal.mark-requires
mark-requires c =
    row_below c.args.rows.now c.requires.below c.args.k (c.loop-class.class - 1) c.loop-class.marks c.as_slice.result.now (omega arith) c.requires.known c.loop-class.invariant.size
    (c.as_slice.ensures ∙ row_is c.args.rows.now (c.loop-class.class - 1) c.index-rows-class.result (omega arith) c.index-rows-class.is)

pub loop-class-preserved-then-marks-class : goal.loop-class-preserved-then-marks-class
loop-class-preserved-then-marks-class c =
    let row : c.as_slice.result.now ≡ bases c.args.rows.now (c.loop-class.class - 1) =
    c.as_slice.ensures ∙ row_is c.args.rows.now (c.loop-class.class - 1) c.index-rows-class.result (omega arith) c.index-rows-class.is in
    let next : c.loop-class.class ≡ c.loop-class.class - 1 + 1 = omega arith in
    MarksFrom-marked c.args.rows.now c.requires.below c.args.k (c.loop-class.class - 1) c.loop-class.marks c.mark.new.marks c.mark.auto.marks c.if-marks-class.true
    (subst (λ classes. Marks classes c.loop-class.marks c.mark.new.marks) row c.mark.ensures)
    (subst (λ bound. MarksFrom c.args.rows.now c.args.k bound c.loop-class.marks) next c.loop-class.invariant)
