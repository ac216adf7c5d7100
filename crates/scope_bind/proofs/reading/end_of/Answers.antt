use Rattle.std.proofs.Common.{◌≡◌, ◌∙◌, sym, ap, arith, true, false, subst, ℕ, ◌<◌, Bool, ◌&&◌}
use Rattle.scope_rules.specs.Kinds.{is_comprehension}
use Rattle.scope_rules.specs.Nodes.{kind_of}
use Rattle.scope_rules.specs.Places.{around}
use Rattle.scope_rules.proofs.Nesting.{around-before}
use Rattle.scope_bind.proofs.OutwardLaws.{IsOnTheWay, way_starts, way_goes_on, way_ends_scope, way_ends_near, module_ends}
use Rattle.scope_bind.proofs.reading.end_of.Goals as goal

pub outwards-init : goal.outwards-init
outwards-init c = way_starts c.args.tree.now c.args.own c.args.name.now c.requires.made

pub returns-then-ends_inside : goal.returns-then-ends_inside
returns-then-ends_inside c =
    let here = sym c.ends_inside.ensures ∙ c.if-ends_inside.true in
    record {
      scope = way_ends_scope c.args.tree.now c.args.own c.args.name.now c.outwards.s c.outwards.is_near here c.outwards.invariant;
      near = way_ends_near c.args.tree.now c.args.own c.args.name.now c.outwards.s c.outwards.is_near here c.outwards.invariant;
    }

pub outwards-smaller : goal.outwards-smaller
outwards-smaller c =
    let some : 0 < c.outwards.s = omega (arith, c.outwards-test.true) in
    let low = around-before c.args.tree.now c.outwards.s c.outwards.invariant.made some in
    omega (arith, low, c.place_at-s.ensures.value)

pub outwards-preserved : goal.outwards-preserved
outwards-preserved c =
    let t = c.args.tree.now in
    let s = c.outwards.s in
    let some : 0 < s = omega (arith, c.outwards-test.true) in
    let goes = way_goes_on t c.args.own c.args.name.now s c.outwards.is_near some (sym c.ends_inside.ensures ∙ c.if-ends_inside.false) c.outwards.invariant in
    let near = c.both-is_near.ensures ∙ ap (λ (b : Bool). c.outwards.is_near && b) (c.is_comprehension.ensures ∙ ap is_comprehension c.kind.ensures) in
    subst (λ (b : Bool). IsOnTheWay t c.args.own c.args.name.now c.place_at-s.result b) (sym near)
    (subst (λ (o : ℕ). IsOnTheWay t c.args.own c.args.name.now o (c.outwards.is_near && is_comprehension (kind_of t s))) (sym c.place_at-s.ensures.value) goes)

pub returns : goal.returns
returns c =
    let t = c.args.tree.now in
    let zero_ : c.outwards.s ≡ 0 = omega (arith, c.outwards-test.false) in
    let here = module_ends t c.args.own c.args.name.now c.outwards.s zero_ in
    record {
      scope = sym zero_ ∙ way_ends_scope t c.args.own c.args.name.now c.outwards.s c.outwards.is_near here c.outwards.invariant;
      near = way_ends_near t c.args.own c.args.name.now c.outwards.s c.outwards.is_near here c.outwards.invariant;
    }
