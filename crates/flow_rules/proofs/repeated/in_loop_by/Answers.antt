use Rattle.std.proofs.Common.{false, sym, ap, ◌∙◌, arith}
use Rattle.rule_nodes.specs.Kinds.{is_owner}
use Rattle.flow_rules.specs.Outwards.{in_loop}
use Rattle.flow_rules.proofs.Around.{loop_root, loop_here, loop_ends, loop_on}
use Rattle.flow_rules.proofs.ListLaws.{list_length, list_get}
use Rattle.flow_rules.proofs.repeated.in_loop_by.Goals as goal

pub bounds-loops-p : goal.bounds-loops-p
bounds-loops-p c = omega (arith, c.in-Some.ensures.before, list_length (in_loop c.args.tree.now) c.args.n.0 c.args.loops.now c.requires.before)

pub returns-in-None : goal.returns-in-None
returns-in-None c = loop_root c.args.tree.now c.args.n.0 (sym c.in-None.ensures.value)

pub returns-in-Some : goal.returns-in-Some
returns-in-Some c =
    loop_here c.args.tree.now c.args.n.0 c.in-Some.p.0 c.requires.made (sym c.in-Some.ensures.value) c.in-Some.ensures.before (sym c.is_repeated.ensures ∙ c.if-is_repeated.true)

pub returns-in-Some-2 : goal.returns-in-Some-2
returns-in-Some-2 c =
    loop_ends c.args.tree.now c.args.n.0 c.in-Some.p.0 c.requires.made (sym c.in-Some.ensures.value) c.in-Some.ensures.before (sym c.is_repeated.ensures ∙ c.if-is_repeated.false)
    (sym (ap is_owner c.kind.ensures) ∙ sym c.is_owner.ensures ∙ c.if-is_owner.true)

pub returns-in-Some-3 : goal.returns-in-Some-3
returns-in-Some-3 c =
    list_get (in_loop c.args.tree.now) c.args.n.0 c.args.loops.now c.in-Some.p.0 false c.requires.before c.in-Some.ensures.before
    ∙ loop_on c.args.tree.now c.args.n.0 c.in-Some.p.0 c.requires.made (sym c.in-Some.ensures.value) c.in-Some.ensures.before (sym c.is_repeated.ensures ∙ c.if-is_repeated.false)
    (sym (ap is_owner c.kind.ensures) ∙ sym c.is_owner.ensures ∙ c.if-is_owner.false)
