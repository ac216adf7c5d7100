use Rattle.std.proofs.Common.{◌∙◌, sym, ap, arith, ◌<◌}
use Rattle.scope_rules.specs.Kinds.{is_comprehension}
use Rattle.scope_rules.specs.Binding.{beyond_comprehensions}
use Rattle.scope_rules.proofs.Nesting.{around-before}
use Rattle.scope_bind.proofs.OutwardLaws.{beyond_itself, beyond_module, beyond_outwards}
use Rattle.unused_names.proofs.locals.beyond_comprehensions.Goals as goal

pub outwards-smaller : goal.outwards-smaller
outwards-smaller c =
    let some : 0 < c.outwards.s = omega (arith, c.outwards-test.true) in
    let low = around-before c.args.tree.now c.outwards.s c.outwards.invariant.0 some in
    omega (arith, low, c.around-s.ensures.value)

pub outwards-preserved : goal.outwards-preserved
outwards-preserved c =
    let some : 0 < c.outwards.s = omega (arith, c.outwards-test.true) in
    let is = sym (ap is_comprehension c.kind.ensures) ∙ sym c.is_comprehension.ensures ∙ c.if-is_comprehension.true in
    (c.around-s.ensures.within, ap (beyond_comprehensions c.args.tree.now) c.around-s.ensures.value ∙ beyond_outwards c.args.tree.now c.outwards.s c.outwards.invariant.0 some is ∙ c.outwards.invariant.1)

pub returns-else-is_comprehension-clause-value : goal.returns-else-is_comprehension-clause-value
returns-else-is_comprehension-clause-value c =
    let is = sym (ap is_comprehension c.kind.ensures) ∙ sym c.is_comprehension.ensures ∙ c.if-is_comprehension.false in
    beyond_itself c.args.tree.now c.outwards.s c.outwards.invariant.0 is ∙ c.outwards.invariant.1

pub returns-after-outwards-clause-value : goal.returns-after-outwards-clause-value
returns-after-outwards-clause-value c = beyond_module c.args.tree.now c.outwards.s (omega (arith, c.outwards-test.false)) ∙ c.outwards.invariant.1
