use Rattle.scope_bind.proofs.BuildLaws.{nodes_if}
use Rattle.scope_bind.proofs.scopes.Scopes.build.Goals as goal

pub returns-clause-nodes : goal.returns-clause-nodes
returns-clause-nodes c = nodes_if c.args.tree.now c.finish.result c.finish.ensures
