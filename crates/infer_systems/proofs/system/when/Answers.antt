use Rattle.std.proofs.Common.{◌≡◌, true, false, sym, ◌∙◌, ap}
use Rattle.infer_sets.specs.Sets.{none, is_below}
use Rattle.infer_equations.proofs.Reading.{stays-trans}
use Rattle.infer_systems.proofs.Readings.{when-empty, when-some}
use Rattle.infer_systems.proofs.system.when.Goals as goal

pub set-requires : goal.set-requires
set-requires c = c.in_ok-set.ensures.gives.numbered.below

pub returns-then-is_within-clause-stays : goal.returns-then-is_within-clause-stays
returns-then-is_within-clause-stays c = stays-trans _ _ _ c.get.ensures.stays c.number.ensures.stays

pub returns-then-is_within-clause-gives : goal.returns-then-is_within-clause-gives
returns-then-is_within-clause-gives c =
    let e : is_below c.set.result.now none ≡ true = ap (λ x. is_below c.set.result.now x) (sym c.empty-none.ensures) ∙ sym c.is_within.ensures ∙ c.if-is_within.true in
    when-empty c.args.limit c.args.first c.args.second _ _ _ c.in_ok-set.set c.set.result.now _ c.number.result c.in_ok-set.ensures.gives c.set.ensures e c.empty-none.ensures c.number.ensures.gives

pub returns-clause-stays : goal.returns-clause-stays
returns-clause-stays c = stays-trans _ _ _ c.get.ensures.stays c.with.ensures.stays

pub returns-clause-gives : goal.returns-clause-gives
returns-clause-gives c =
    let e : is_below c.set.result.now none ≡ false = ap (λ x. is_below c.set.result.now x) (sym c.empty-none.ensures) ∙ sym c.is_within.ensures ∙ c.if-is_within.false in
    when-some c.args.limit c.args.first c.args.second _ _ _ c.in_ok-set.set c.set.result.now _ c.with.result c.in_ok-set.ensures.gives c.set.ensures e c.empty-none.ensures c.with.ensures.gives
