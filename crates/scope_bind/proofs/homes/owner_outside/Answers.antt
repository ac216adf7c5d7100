use Rattle.std.proofs.Common.{◌≡◌, ◌∙◌, sym, ap, subst, arith, true, false, ℕ, ◌<◌, Option, Some, None, drop, Bool}
use Rattle.std.specs.List.{find}
use Rattle.scope_rules.specs.Places.{chain}
use Rattle.scope_rules.specs.Declaring.{is_owner}
use Rattle.scope_rules.proofs.Nesting.{around-before}
use Rattle.scope_bind.proofs.OutwardLaws.{owner_module, owner_found, owner_outwards, owner_is}
use Rattle.scope_bind.proofs.homes.owner_outside.Goals as goal

pub outwards-init : goal.outwards-init
outwards-init c = (c.requires.made, owner_is c.args.tree.now c.args.scope c.args.name.now)

pub returns-then-is_owner : goal.returns-then-is_owner
returns-then-is_owner c =
    let some : 0 < c.outwards.s = omega (arith, c.outwards-test.true) in
    let e = c.place_at-s.ensures.value in
    let is = sym (ap (is_owner c.args.tree.now c.args.name.now) e) ∙ sym c.is_owner.ensures ∙ c.if-is_owner.true in
    ap (λ (s : ℕ). Some s) e ∙ owner_found c.args.tree.now c.outwards.s c.args.name.now c.outwards.invariant.0 some is ∙ c.outwards.invariant.1

pub outwards-smaller : goal.outwards-smaller
outwards-smaller c =
    let some : 0 < c.outwards.s = omega (arith, c.outwards-test.true) in
    let low = around-before c.args.tree.now c.outwards.s c.outwards.invariant.0 some in
    omega (arith, low, c.place_at-s.ensures.value)

pub outwards-preserved : goal.outwards-preserved
outwards-preserved c =
    let some : 0 < c.outwards.s = omega (arith, c.outwards-test.true) in
    let e = c.place_at-s.ensures.value in
    let is = sym (ap (is_owner c.args.tree.now c.args.name.now) e) ∙ sym c.is_owner.ensures ∙ c.if-is_owner.false in (
      c.place_at-s.ensures.within,
      ap (λ (s : ℕ). find (is_owner c.args.tree.now c.args.name.now) (drop 1 (chain c.args.tree.now s))) e ∙ owner_outwards c.args.tree.now c.outwards.s c.args.name.now c.outwards.invariant.0 some is ∙ c.outwards.invariant.1,
    )

pub returns : goal.returns
returns c = owner_module c.args.tree.now c.outwards.s c.args.name.now (omega (arith, c.outwards-test.false)) ∙ c.outwards.invariant.1
