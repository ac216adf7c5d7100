use Rattle.std.proofs.Common.{◌∙◌, ap, false}
use Rattle.unused_names.specs.Nodes.{asked_above}
use Rattle.scope_bind.proofs.ListLaws.{list_get}
use Rattle.unused_names.proofs.under.is_under_above.Goals as goal

pub returns-in-Some : goal.returns-in-Some
returns-in-Some c = λ f h. list_get f c.args.n.0 c.args.under.now c.in-Some.q.0 false h c.in-Some.ensures.before ∙ ap (asked_above f) c.in-Some.ensures.value
