use Rattle.std.proofs.Common.{◌<◌, ◌∙◌, sym, subst, arith}
use Rattle.scope_rules.proofs.Nesting.{around-before}
use Rattle.unused_names.proofs.Homes.{IsAhead, ahead_starts, ahead_goes_on, ahead_found, ahead_ends}
use Rattle.unused_names.proofs.firsts.first_home.Goals as goal

pub outwards-init : goal.outwards-init
outwards-init c = ahead_starts c.args.tree.now c.args.n.0 c.args.name.now c.own_scope-s.result c.own_scope-s.ensures.within c.own_scope-s.ensures.value c.requires.bound

pub returns-then-is_first_in-clause-value : goal.returns-then-is_first_in-clause-value
returns-then-is_first_in-clause-value c = ahead_found c.args.tree.now c.args.n.0 c.args.name.now c.outwards.s c.requires.bound (sym c.is_first_in.ensures ∙ c.if-is_first_in.true)

pub returns-then-s-eq0-clause-value : goal.returns-then-s-eq0-clause-value
returns-then-s-eq0-clause-value c =
    ahead_ends c.args.tree.now c.args.n.0 c.args.name.now c.outwards.s (omega (arith, c.if-s-eq0.true)) (sym c.is_first_in.ensures ∙ c.if-is_first_in.false) c.outwards.invariant

pub outwards-preserved : goal.outwards-preserved
outwards-preserved c =
    let some : 0 < c.outwards.s = omega (arith, c.if-s-eq0.false) in
    subst (IsAhead c.args.tree.now c.args.n.0 c.args.name.now) (sym c.around-s.ensures.value)
    (ahead_goes_on c.args.tree.now c.args.n.0 c.args.name.now c.outwards.s some (sym c.is_first_in.ensures ∙ c.if-is_first_in.false) c.outwards.invariant)

pub outwards-smaller : goal.outwards-smaller
outwards-smaller c =
    let some : 0 < c.outwards.s = omega (arith, c.if-s-eq0.false) in
    let low = around-before c.args.tree.now c.outwards.s c.outwards.invariant.made some in
    omega (arith, low, c.around-s.ensures.value)
