use Rattle.infer_sets.proofs.KeptJoins.{grew-result}
use Rattle.infer_sets.proofs.set_layer.SetLayer.join_anew.Goals as goal

pub returns-clause-grew : goal.returns-clause-grew
returns-clause-grew c = grew-result _ _ _ c.keep_join.result c.keep_join.ensures.ok c.keep_join.ensures.err
