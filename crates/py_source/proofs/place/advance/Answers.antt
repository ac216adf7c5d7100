use Rattle.std.proofs.Common.{arith, ◌∙◌}
use Rattle.py_source.proofs.CharacterPlaces.{advance_step}
use Rattle.py_source.proofs.place.advance.Goals as goal

pub loop-left-preserved : goal.loop-left-preserved
loop-left-preserved c =
    let step = advance_step c.loop-left.at c.loop-left.left c.index-rest-0.result c.loop-left.rest.now (omega arith) c.loop-left.invariant.left c.index-rest-0.is in
    record {
      same = rw (c.next_pos-at.ensures.value, c.char_ends_line.ensures, c.len_utf8.ensures.value, c.split_at.ensures.back) (step.same ∙ c.loop-left.invariant.same);
      line = rw c.split_at.ensures.back (omega (arith, step.size, c.next_pos-at.ensures.line, c.len_utf8.ensures.value, c.loop-left.invariant.line));
      col = rw c.split_at.ensures.back (omega (arith, step.size, c.next_pos-at.ensures.col, c.len_utf8.ensures.value, c.loop-left.invariant.col));
      left = omega (arith, c.split_at.ensures.back_len, c.loop-left.invariant.left);
    }
