use Rattle.infer_reached.proofs.Extension.{same_below}
use Rattle.infer_reached.proofs.reached.lies_within.Goals as goal

pub returns-then-id-other : goal.returns-then-id-other
returns-then-id-other c = same_below c.args.view.now.numbers c.args.id c.args.other c.if-id-other.true
