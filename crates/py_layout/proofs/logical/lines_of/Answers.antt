use Rattle.std.proofs.Common.{arith, length, ◌<◌, ◌+◌}
use Rattle.py_layout.proofs.PartLaws.{turn, turn_fails, line_within_wider}
use Rattle.py_layout.proofs.logical.lines_of.Goals as goal

pub returns-in-Err-clause-within : goal.returns-in-Err-clause-within
returns-in-Err-clause-within c =
    let some : 0 < length c.loop-rest.rest.now = grind arith in
    line_within_wider (c.loop-rest.place + 1) (length c.args.items.now) c.in-Err.fault (omega (arith, some, c.loop-rest.invariant.size)) c.in-Err.ensures.here

pub returns-in-Err-clause-value : goal.returns-in-Err-clause-value
returns-in-Err-clause-value c =
    let some : 0 < length c.loop-rest.rest.now = grind arith in
    turn_fails _ _ _ _ _ _ _ c.split_at.result.1.now _ c.in-Err.fault some c.part_len.ensures.value c.split_at.ensures.front c.split_at.ensures.back c.in-Err.ensures.added c.loop-rest.invariant.lines

pub loop-rest-preserved : goal.loop-rest-preserved
loop-rest-preserved c =
    let some : 0 < length c.loop-rest.rest.now = grind arith in
    record {
      lines = turn _ _ _ _ _ _ _ _ _ _ _ _ some c.part_len.ensures.value c.split_at.ensures.front c.split_at.ensures.back c.in-Ok.ensures.count c.in-Ok.ensures.added c.loop-rest.invariant.lines;
      few = c.in-Ok.ensures.few;
      size = omega (arith, c.split_at.ensures.front_len, c.split_at.ensures.back_len, c.loop-rest.invariant.size);
      tokens = omega (arith, c.in-Ok.ensures.within, c.loop-rest.invariant.tokens);
    }
