use Rattle.std.proofs.Common.{arith, ◌∙◌}
use Rattle.py_token.proofs.TextLaws.{characters_short}
use Rattle.py_token.proofs.whole.read.Goals as goal

pub cut-requires : goal.cut-requires
cut-requires c =
    omega (arith, characters_short c.args.text.now c.as_slice.result.now c.utf8.text (c.as_slice.ensures.value ∙ c.in-Ok.ensures), c.requires)
