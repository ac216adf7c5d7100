use Rattle.scope_rules.specs.Declaring.{binder_mark}
use Rattle.check_names.proofs.ScopeSteps.{nodes_made}
use Rattle.check_names.proofs.asked.binders.Goals as goal

pub returns-clause-made : goal.returns-clause-made
returns-clause-made c = nodes_made (binder_mark c.args.tree.now) c.args.tree.now c.args.scope.0 c.args.name.now _ (c.binders.ensures c.args.tree.now c.requires)
