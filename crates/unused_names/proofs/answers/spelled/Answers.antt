use Rattle.unused_names.proofs.Asks.{is_node}
use Rattle.unused_names.proofs.answers.spelled.Goals as goal

pub spelled-requires : goal.spelled-requires
spelled-requires c = is_node c.args.tree.now c.args.scopes.now c.args.n.0 c.requires.scopes c.requires.made

pub returns : goal.returns
returns c = c.spelled.ensures c.args.tree.now c.requires.scopes c.requires.made
