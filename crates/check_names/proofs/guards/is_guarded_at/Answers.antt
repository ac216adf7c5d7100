use Rattle.std.proofs.Common.{sym}
use Rattle.check_names.proofs.GuardLaws.{guarded_none}
use Rattle.check_names.proofs.guards.is_guarded_at.Goals as goal

pub returns-in-None : goal.returns-in-None
returns-in-None c = guarded_none c.args.tree.now c.args.n.0 c.requires.made (sym c.in-None.ensures.value)
