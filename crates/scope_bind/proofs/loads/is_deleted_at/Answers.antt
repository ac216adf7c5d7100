use Rattle.std.proofs.Common.{◌≡◌, ◌∙◌, sym, ap, Option, ℕ}
use Rattle.scope_bind.proofs.AttributeLaws.{deleted_none}
use Rattle.scope_bind.proofs.loads.is_deleted_at.Goals as goal

pub returns-in-None : goal.returns-in-None
returns-in-None c = deleted_none c.args.tree.now c.args.n.0 c.requires.made (sym c.in-None.ensures.value)
