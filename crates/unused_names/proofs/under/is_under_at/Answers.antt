use Rattle.std.proofs.Common.{false}
use Rattle.scope_bind.proofs.ListLaws.{list_get}
use Rattle.tree_nodes.specs.Trees.{count_of}
use Rattle.unused_names.proofs.Unders.{under_itself, under_other}
use Rattle.unused_names.specs.Nodes.{is_under}
use Rattle.unused_names.proofs.under.is_under_at.Goals as goal

pub returns-then-passing-n : goal.returns-then-passing-n
returns-then-passing-n c = λ test p u.
    under_itself test c.args.tree.now c.args.n.0 _ c.requires.made (list_get test (count_of c.args.tree.now) c.args.passing.now c.args.n.0 false p c.requires.made) c.if-passing-n.true

pub returns-else-passing-n : goal.returns-else-passing-n
returns-else-passing-n c = λ test p u.
    under_other test c.args.tree.now c.args.n.0 _ _ c.requires.made (list_get test (count_of c.args.tree.now) c.args.passing.now c.args.n.0 false p c.requires.made) c.if-passing-n.false
    (c.is_under_above-is_above.ensures (is_under test c.args.tree.now) u)
