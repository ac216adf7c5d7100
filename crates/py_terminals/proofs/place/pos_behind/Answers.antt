use Rattle.std.proofs.Common.{arith, ◌∙◌, length, ◌<◌}
use Rattle.py_source.proofs.PlaceLaws.{pos_step}
use Rattle.py_terminals.proofs.place.pos_behind.Goals as goal

pub loop-left-preserved : goal.loop-left-preserved
loop-left-preserved c =
    let some : 0 < length c.loop-left.rest.now = omega (arith, c.loop-left.invariant.left) in
    let step = pos_step c.loop-left.at c.loop-left.left c.loop-left.rest.now (omega arith) some in
    record {
      same = rw (c.next_pos-at.ensures.value, c.ends_line.ensures, c.split_at.ensures.back) (step ∙ c.loop-left.invariant.same);
      line = omega (arith, c.next_pos-at.ensures.line, c.loop-left.invariant.line);
      col = omega (arith, c.next_pos-at.ensures.col, c.loop-left.invariant.col);
      left = omega (arith, c.split_at.ensures.back_len, c.loop-left.invariant.left);
    }
