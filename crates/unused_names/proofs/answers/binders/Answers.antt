use Rattle.unused_names.proofs.Asks.{binders_made}
use Rattle.unused_names.proofs.answers.binders.Goals as goal

pub returns-clause-value : goal.returns-clause-value
returns-clause-value c = c.binders.ensures c.args.tree.now c.requires.scopes

pub returns-clause-made : goal.returns-clause-made
returns-clause-made c = binders_made c.args.tree.now c.args.scope c.args.name.now c.binders.result.now (c.binders.ensures c.args.tree.now c.requires.scopes)
