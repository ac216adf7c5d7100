use Rattle.check_names.proofs.ScopeSteps.{is_node}
use Rattle.check_names.proofs.asked.spelled.Goals as goal

pub spelled-requires : goal.spelled-requires
spelled-requires c = is_node c.args.tree.now c.args.scopes.now c.args.n.0 c.requires.scopes c.requires.made
