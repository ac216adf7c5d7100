use Rattle.std.proofs.Common.{◌≡◌, ◌∙◌, sym, arith}
use Rattle.py_blocks.proofs.FaultLaws.{is-first, are-right}
use Rattle.py_blocks.proofs.LookingLaws.{found, passed, within, none-left}
use Rattle.py_blocks.proofs.rules.first_fault.Goals as goal

pub returns-in-Some-clause-fault : goal.returns-in-Some-clause-fault
returns-in-Some-clause-fault c =
    found _ _ _ _ _ c.loop-rest.rest.now _ c.leave-around.result c.in-Some.cause c.loop-rest.invariant c.in-len1-up.len_at_least c.leave-around.ensures.around (sym c.cause_at.ensures ∙ c.in-Some.is)

pub loop-rest-preserved : goal.loop-rest-preserved
loop-rest-preserved c =
    passed _ _ _ _ _ c.loop-rest.rest.now _ c.leave-around.result _ _ c.loop-rest.invariant c.in-len1-up.len_at_least c.leave-around.ensures.around
    (sym c.cause_at.ensures ∙ c.in_default-cause_at.is) c.in_ok-put.ensures c.leave-around.ensures.below

pub returns-in-Some-clause-place : goal.returns-in-Some-clause-place
returns-in-Some-clause-place c = within _ _ _ _ _ c.loop-rest.rest.now c.loop-rest.invariant c.in-len1-up.len_at_least

pub returns-in-Some-clause-first : goal.returns-in-Some-clause-first
returns-in-Some-clause-first c =
    is-first c.args.is_whole c.args.lines.now _ (sym (found _ _ _ _ _ c.loop-rest.rest.now _ c.leave-around.result c.in-Some.cause c.loop-rest.invariant c.in-len1-up.len_at_least c.leave-around.ensures.around (sym c.cause_at.ensures ∙ c.in-Some.is)))

pub returns-clause-first : goal.returns-clause-first
returns-clause-first c = are-right c.args.is_whole c.args.lines.now (none-left _ _ _ _ _ c.loop-rest.rest.now c.loop-rest.invariant (omega (arith, c.in_default.len_below)))
