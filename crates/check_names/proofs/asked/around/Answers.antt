use Rattle.std.proofs.Common.{arith}
use Rattle.scope_rules.proofs.Nesting.{around-le}
use Rattle.check_names.proofs.ScopeSteps.{is_node}
use Rattle.check_names.proofs.asked.around.Goals as goal

pub around-requires : goal.around-requires
around-requires c = is_node c.args.tree.now c.args.scopes.now c.args.n.0 c.requires.scopes c.requires.made

pub returns-clause-made : goal.returns-clause-made
returns-clause-made c = omega (arith, c.requires.made, c.around.ensures c.args.tree.now c.requires.scopes c.requires.made, around-le c.args.tree.now c.args.n.0 c.requires.made)
