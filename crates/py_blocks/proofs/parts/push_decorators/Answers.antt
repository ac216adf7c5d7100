use Rattle.std.proofs.Common.{◌∙◌}
use Rattle.py_blocks.proofs.GatheredLaws.{one_more}
use Rattle.py_blocks.proofs.parts.push_decorators.Goals as goal

pub loop-row-preserved : goal.loop-row-preserved
loop-row-preserved c =
    one_more _ _ _ _ _ c.loop-row-test.true c.in_ok-extend_from_slice.ensures.items ∙ c.loop-row.invariant
