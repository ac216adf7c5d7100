use Rattle.std.proofs.Common.{rules}
use Rattle.tree_nodes.proofs.WalkLaws.{ids-step}
use Rattle.tree_nodes.proofs.walk.WalkIterator.next.Goals as goal

pub returns-then-self-clause-steps : goal.returns-then-self-clause-steps
returns-then-self-clause-steps c = ids-step _ _ _ c.self.view_is c.if-self.true

pub returns-then-self-clause-goes : goal.returns-then-self-clause-goes
returns-then-self-clause-goes c = rw (ids-step _ _ _ c.self.view_is c.if-self.true) (search rules)
