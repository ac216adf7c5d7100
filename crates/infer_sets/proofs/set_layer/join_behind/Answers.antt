use Rattle.infer_sets.proofs.Layers.{joins-insert}
use Rattle.infer_sets.proofs.KeptJoins.{taken-back}
use Rattle.infer_sets.proofs.set_layer.join_behind.Goals as goal

pub returns-in-Ok-clause-joins : goal.returns-in-Ok-clause-joins
returns-in-Ok-clause-joins c = joins-insert _ _ c.args.pair c.in_ok-id.id c.in-Ok.ensures.updates.0

pub returns-in-Err-clause-err : goal.returns-in-Err-clause-err
returns-in-Err-clause-err c = taken-back _ _ _ _ _ c.truncate.ensures c.in_ok-id.ensures.own c.len-had.ensures
