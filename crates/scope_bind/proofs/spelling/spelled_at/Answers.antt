use Rattle.std.proofs.Common.{◌≡◌}
use Rattle.scope_bind.proofs.SpellLaws.{spelled_some, spelled_none}
use Rattle.scope_bind.proofs.spelling.spelled_at.Goals as goal

pub returns-in_ok-read_name-in-Some : goal.returns-in_ok-read_name-in-Some
returns-in_ok-read_name-in-Some c = spelled_some c.args.tree.now c.args.n.0 c.in-Some.name.now c.in_ok-read_name-in-Some.field-0 c.in-Some.ensures c.in_ok-read_name-in-Some.ensures

pub returns-in-None : goal.returns-in-None
returns-in-None c = spelled_none c.args.tree.now c.args.n.0 c.in-None.ensures
