use Rattle.std.proofs.Common.{◌∙◌, sym, ap, arith, ℕ, ◌<◌}
use Rattle.std.specs.List.{list_any}
use Rattle.scope_rules.specs.Places.{chain}
use Rattle.scope_rules.proofs.Nesting.{around-before}
use Rattle.check_names.specs.Redefined.{is_first_binder}
use Rattle.check_names.proofs.ScopeSteps.{any_outwards, any_here, any_module}
use Rattle.check_names.proofs.redefined.is_first_around.Goals as goal

pub outwards-init : goal.outwards-init
outwards-init c = record {
  made = c.around-s.ensures.made;
  same = ap (λ (s : ℕ). list_any (is_first_binder c.args.tree.now c.args.n.0 c.args.name.now) (chain c.args.tree.now s)) c.around-s.ensures.value;
}

pub returns-then-is_first_binder : goal.returns-then-is_first_binder
returns-then-is_first_binder c =
    let some : 0 < c.outwards.s.0 = omega (arith, c.outwards-test.true) in
    let passes = sym c.is_first_binder.ensures ∙ c.if-is_first_binder.true in
    any_here (is_first_binder c.args.tree.now c.args.n.0 c.args.name.now) c.args.tree.now c.outwards.s.0 c.outwards.invariant.made some passes ∙ c.outwards.invariant.same

pub outwards-smaller : goal.outwards-smaller
outwards-smaller c =
    let some : 0 < c.outwards.s.0 = omega (arith, c.outwards-test.true) in
    let low = around-before c.args.tree.now c.outwards.s.0 c.outwards.invariant.made some in
    omega (arith, low, c.around-s-in-outwards.ensures.value)

pub outwards-preserved : goal.outwards-preserved
outwards-preserved c =
    let test = is_first_binder c.args.tree.now c.args.n.0 c.args.name.now in
    let some : 0 < c.outwards.s.0 = omega (arith, c.outwards-test.true) in
    let fails = sym c.is_first_binder.ensures ∙ c.if-is_first_binder.false in
    record {
      made = c.around-s-in-outwards.ensures.made;
      same =
          ap (λ (s : ℕ). list_any test (chain c.args.tree.now s)) c.around-s-in-outwards.ensures.value
          ∙ any_outwards test c.args.tree.now c.outwards.s.0 c.outwards.invariant.made some fails ∙ c.outwards.invariant.same;
    }

pub returns : goal.returns
returns c =
    let test = is_first_binder c.args.tree.now c.args.n.0 c.args.name.now in
    c.is_first_binder-2.ensures ∙ any_module test c.args.tree.now c.outwards.s.0 (omega (arith, c.outwards-test.false)) ∙ c.outwards.invariant.same
