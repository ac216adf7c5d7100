use Rattle.scope_bind.proofs.AskLaws.{bare_none}
use Rattle.unused_names.proofs.firsts.is_bare.Goals as goal

pub returns-in-None : goal.returns-in-None
returns-in-None c = bare_none c.args.tree.now c.args.n.0 c.in-None.ensures.value
