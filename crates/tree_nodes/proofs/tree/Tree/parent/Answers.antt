use Rattle.std.proofs.Common.{refl, arith}
use Rattle.tree_nodes.proofs.EntryLaws.{root-of, under-of}
use Rattle.tree_nodes.proofs.tree.Tree.parent.Goals as goal

pub returns-then-above-eq0-clause-root : goal.returns-then-above-eq0-clause-root
returns-then-above-eq0-clause-root c = (λ _. root-of _ _ _ c.requires c.row-above.ensures.parent c.if-above-eq0.true, λ _. refl)

pub returns-else-above-eq0-clause-root : goal.returns-else-above-eq0-clause-root
returns-else-above-eq0-clause-root c =
    (λ e. cc, λ z. absurd (omega (arith, z, (under-of _ _ _ c.requires c.row-above.ensures.parent c.if-above-eq0.false).0)))

pub returns-else-above-eq0-clause-before : goal.returns-else-above-eq0-clause-before
returns-else-above-eq0-clause-before c = (under-of _ _ _ c.requires c.row-above.ensures.parent c.if-above-eq0.false).0

pub returns-else-above-eq0-clause-kid : goal.returns-else-above-eq0-clause-kid
returns-else-above-eq0-clause-kid c = (under-of _ _ _ c.requires c.row-above.ensures.parent c.if-above-eq0.false).1
