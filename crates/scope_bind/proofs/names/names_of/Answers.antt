use Rattle.scope_bind.proofs.BuildLaws.{names_if}
use Rattle.scope_bind.proofs.names.names_of.Goals as goal

pub returns : goal.returns
returns c = names_if c.args.tree.now _ _ _ c.of.result c.in_ok-rows.ensures c.in_ok-others.ensures c.in_ok-append.ensures.items c.of.ensures
