use Rattle.std.proofs.Common.{◌∙◌}
use Rattle.option_words.proofs.NumberLaws.{number_more}
use Rattle.option_words.proofs.value.number_up_to_bound.Goals as goal

pub loop-c-preserved : goal.loop-c-preserved
loop-c-preserved c = c.add_digit-number.ensures ∙ number_more c.args.digits.now c.loop-c.c-index c.loop-c.number c.loop-c-test.true c.loop-c.invariant
