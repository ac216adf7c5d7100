use Rattle.unused_names.proofs.Asks.{is_node}
use Rattle.unused_names.proofs.answers.resolved.Goals as goal

pub resolve-requires : goal.resolve-requires
resolve-requires c = is_node c.args.tree.now c.args.scopes.now c.args.n.0 c.requires.scopes c.requires.made

pub returns : goal.returns
returns c = c.resolve.ensures c.args.tree.now c.requires.scopes c.requires.made c.requires.named
