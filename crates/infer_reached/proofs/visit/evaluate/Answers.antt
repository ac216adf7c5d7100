use Rattle.infer_reached.proofs.Extension.{was_read}
use Rattle.infer_reached.proofs.visit.evaluate.Goals as goal

pub returns-clause-read : goal.returns-clause-read
returns-clause-read g c =
    let h = was_read _ _ _ _ _ _ _ _ c.in_ok-set.ensures.gives c.take_noted.ensures.stays c.take_noted.ensures.none c.take_noted-2.ensures.stays c.take_noted-2.ensures.value in h.1
