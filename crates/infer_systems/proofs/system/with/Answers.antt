use Rattle.std.proofs.Common.{[], ◌∷◌}
use Rattle.infer_equations.proofs.Reading.{stays-trans}
use Rattle.infer_systems.proofs.Readings.{first-below, joins-give}
use Rattle.infer_systems.proofs.system.with.Goals as goal

pub join-requires-clause-first : goal.join-requires-clause-first
join-requires-clause-first c = first-below _ _ _ _ _ _ _ _ _ c.in_ok-set.ensures.gives c.in_ok-other.ensures.gives

pub join-requires-clause-second : goal.join-requires-clause-second
join-requires-clause-second c = c.in_ok-other.ensures.gives.numbered.below

pub returns-in_err-other-clause-stays : goal.returns-in_err-other-clause-stays
returns-in_err-other-clause-stays c = stays-trans _ _ _ c.get.ensures.stays c.number.ensures.stays

pub returns-clause-stays : goal.returns-clause-stays
returns-clause-stays c = stays-trans _ _ _ (stays-trans _ _ _ c.get.ensures.stays c.number.ensures.stays) c.join.ensures.stays

pub returns-clause-gives : goal.returns-clause-gives
returns-clause-gives c =
    joins-give c.args.limit (λ a. a c.args.var) (λ _. c.args.more) (λ _. c.args.var ∷ []) (λ _. []) _ _ _ _ c.in_ok-set.set c.in_ok-other.other c.join.result c.in_ok-set.ensures.gives c.in_ok-other.ensures.gives c.join.ensures.gives
