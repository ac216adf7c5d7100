use Rattle.infer_sets.proofs.Listed.{digest-unknown, digest-values}
use Rattle.infer_sets.proofs.digest.digest.Goals as goal

pub returns-in-None : goal.returns-in-None
returns-in-None c = digest-unknown _ c.in-None.ensures.values

pub returns-in-Some : goal.returns-in-Some
returns-in-Some c = digest-values _ _ _ c.in-Some.ensures.values c.in-Some.ensures.ascending c.hash.ensures
