use Rattle.std.proofs.Common.{[], ◌∷◌}
use Rattle.infer_equations.proofs.Reading.{stays-trans}
use Rattle.infer_systems.proofs.Readings.{first-below, joins-give}
use Rattle.infer_systems.proofs.system.both.Goals as goal

pub join-requires-clause-first : goal.join-requires-clause-first
join-requires-clause-first c = first-below _ _ _ _ _ _ _ _ _ c.in_ok-set.ensures.gives c.in_ok-more.ensures.gives

pub join-requires-clause-second : goal.join-requires-clause-second
join-requires-clause-second c = c.in_ok-more.ensures.gives.numbered.below

pub returns-in_err-more-clause-stays : goal.returns-in_err-more-clause-stays
returns-in_err-more-clause-stays c = stays-trans _ _ _ c.get.ensures.stays c.get-2.ensures.stays

pub returns-clause-stays : goal.returns-clause-stays
returns-clause-stays c = stays-trans _ _ _ (stays-trans _ _ _ c.get.ensures.stays c.get-2.ensures.stays) c.join.ensures.stays

pub returns-clause-gives : goal.returns-clause-gives
returns-clause-gives c =
    joins-give c.args.limit (λ a. a c.args.first) (λ a. a c.args.second) (λ _. c.args.first ∷ []) (λ _. c.args.second ∷ []) _ _ _ _ c.in_ok-set.set c.in_ok-more.more c.join.result c.in_ok-set.ensures.gives c.in_ok-more.ensures.gives c.join.ensures.gives
