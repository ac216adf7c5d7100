use Rattle.std.proofs.Common.{None, sym, ap, ◌∙◌, arith}
use Rattle.rule_nodes.specs.Kinds.{is_owner}
use Rattle.rule_nodes.specs.Outwards.{owner_of}
use Rattle.rule_nodes.proofs.Above.{owner_root, owner_here, owner_on}
use Rattle.flow_rules.proofs.ListLaws.{list_length, list_get}
use Rattle.flow_rules.proofs.owners.owner_by.Goals as goal

pub bounds-owners-p : goal.bounds-owners-p
bounds-owners-p c = omega (arith, c.in-Some.ensures.before, list_length (owner_of c.args.tree.now) c.args.n.0 c.args.owners.now c.requires.before)

pub returns-in-None : goal.returns-in-None
returns-in-None c = owner_root c.args.tree.now c.args.n.0 (sym c.in-None.ensures.value)

pub returns-in-Some : goal.returns-in-Some
returns-in-Some c =
    owner_here c.args.tree.now c.args.n.0 c.in-Some.p.0 c.requires.made (sym c.in-Some.ensures.value) c.in-Some.ensures.before
    (sym (ap is_owner c.kind.ensures) ∙ sym c.is_owner.ensures ∙ c.if-is_owner.true)

pub returns-in-Some-2 : goal.returns-in-Some-2
returns-in-Some-2 c =
    list_get (owner_of c.args.tree.now) c.args.n.0 c.args.owners.now c.in-Some.p.0 None c.requires.before c.in-Some.ensures.before
    ∙ owner_on c.args.tree.now c.args.n.0 c.in-Some.p.0 c.requires.made (sym c.in-Some.ensures.value) c.in-Some.ensures.before
    (sym (ap is_owner c.kind.ensures) ∙ sym c.is_owner.ensures ∙ c.if-is_owner.false)
