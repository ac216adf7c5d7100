use Rattle.std.proofs.Common.{take, length, ap, arith, ◌∙◌, ◌-◌, ◌*◌}
use Rattle.unused_names.specs.Literals.{within}
use Rattle.unused_names.proofs.Words.{within_few}
use Rattle.unused_names.proofs.literals.within.Goals as goal

pub returns-then-literal-k : goal.returns-then-literal-k
returns-then-literal-k c = within_few c.args.k c.args.literal.now (omega (arith, c.if-literal-k.true))

pub returns-else-literal-k : goal.returns-else-literal-k
unfolding within
returns-else-literal-k c = c.split_at-else-literal-k.ensures.front ∙ ap (take (length c.args.literal.now - 2 * c.args.k)) c.split_at.ensures.back
