use Rattle.std.proofs.Common.{◌≡◌, refl, subst, arith}
use Rattle.infer_equations.specs.Reading.{Gives}
use Rattle.infer_equations.proofs.Reading.{stays-trans}
use Rattle.infer_systems.specs.Rules.{row_right, row_reads}
use Rattle.infer_systems.proofs.Readings.{row-none, row-more, first-below}
use Rattle.infer_systems.proofs.system.row.Goals as goal

pub loop-place-init : goal.loop-place-init
loop-place-init c = row-none c.args.limit c.args.count c.args.first _ _ _ _ c.empty.ensures c.in_ok-set.ensures.gives

pub join-requires-clause-first : goal.join-requires-clause-first
join-requires-clause-first c = first-below _ _ _ _ _ _ _ _ _ c.loop-place.invariant.gives c.in_ok-more.ensures.gives

pub join-requires-clause-second : goal.join-requires-clause-second
join-requires-clause-second c = c.in_ok-more.ensures.gives.numbered.below

pub loop-place-preserved : goal.loop-place-preserved
loop-place-preserved c = row-more c.args.limit c.args.count c.args.first c.loop-place.place _ _ refl refl _ _ _ _ _ _ _ c.loop-place.invariant c.in_ok-more.ensures.gives c.join.ensures.stays c.in_ok-set-2.ensures.gives

pub returns-clause-gives : goal.returns-clause-gives
returns-clause-gives c =
    let all : c.loop-place.place ≡ c.args.many = omega (arith, c.loop-place-test.false, c.loop-place.auto.place-end) in
    subst (λ n. Gives (row_right c.args.count c.args.limit c.args.first n) (row_reads c.args.count c.args.first n) c.args.view.now c.loop-place.view c.loop-place.set) all c.loop-place.invariant.gives
