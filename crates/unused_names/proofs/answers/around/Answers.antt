use Rattle.std.proofs.Common.{arith}
use Rattle.scope_rules.proofs.Nesting.{around-le}
use Rattle.unused_names.proofs.Asks.{is_node}
use Rattle.unused_names.proofs.answers.around.Goals as goal

pub around-requires : goal.around-requires
around-requires c = is_node c.args.tree.now c.args.scopes.now c.args.n.0 c.requires.scopes c.requires.made

pub returns-clause-value : goal.returns-clause-value
returns-clause-value c = c.around.ensures c.args.tree.now c.requires.scopes c.requires.made

pub returns-clause-within : goal.returns-clause-within
returns-clause-within c =
    let e = c.around.ensures c.args.tree.now c.requires.scopes c.requires.made in
    let low = around-le c.args.tree.now c.args.n.0 c.requires.made in
    omega (arith, e, low, c.requires.made)
