use Rattle.infer_equations.proofs.Overlay.{first_some, first_none}
use Rattle.infer_equations.proofs.look.find_first.Goals as goal

pub returns-in-Some : goal.returns-in-Some
returns-in-Some c = first_some c.in-Some.id _ c.args.work.now c.args.var c.in-Some.ensures

pub returns-in-None : goal.returns-in-None
returns-in-None c = first_none _ _ c.args.work.now c.args.var c.in-None.ensures c.find.ensures
