use Rattle.mro_c3.proofs.LinearizationSteps.{laws_of}
use Rattle.mro_c3.proofs.linearization.linearize.Goals as goal

pub returns-clause-laws : goal.returns-clause-laws
returns-clause-laws c = laws_of c.args.rows.now c.args.k c.order_from.result c.requires.below c.order_from.ensures.order
