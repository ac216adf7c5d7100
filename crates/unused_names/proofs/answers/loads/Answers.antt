use Rattle.unused_names.proofs.Asks.{loads_made}
use Rattle.unused_names.proofs.answers.loads.Goals as goal

pub returns-clause-value : goal.returns-clause-value
returns-clause-value c = c.loads.ensures c.args.tree.now c.requires.scopes

pub returns-clause-made : goal.returns-clause-made
returns-clause-made c = loads_made c.args.tree.now c.args.scope c.args.name.now c.loads.result.now (c.loads.ensures c.args.tree.now c.requires.scopes)
