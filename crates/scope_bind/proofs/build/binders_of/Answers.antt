use Rattle.scope_rules.specs.Declaring.{binder_mark}
use Rattle.scope_bind.proofs.BuildLaws.{tables_if}
use Rattle.scope_bind.proofs.build.binders_of.Goals as goal

pub returns : goal.returns
returns c = tables_if (binder_mark c.args.tree.now) c.args.tree.now _ c.of.result c.in_ok-rows.ensures c.of.ensures
