use Rattle.scope_rules.proofs.Nesting.{nested}
use Rattle.scope_rules.proofs.laws.scopes_lie_around_each_other.Goals as goal

pub returns : goal.returns
returns c = nested
