use Rattle.std.proofs.Common.{rules, arith}
use Rattle.infer_sets.proofs.Layers.{behind, room}
use Rattle.infer_sets.proofs.set_layer.number_behind.Goals as goal

pub overflow_add-result : goal.overflow_add-result
overflow_add-result c =
    let r = room _ _ _ c.len-first.result c.len.result _ c.in_ok-place.ensures.ok.0 c.in_ok-place.ensures.ok.1 c.len.ensures (search rules) in
    omega (arith, r)

pub returns-clause-ok : goal.returns-clause-ok
returns-clause-ok c = behind _ _ _ _ _ _ c.requires c.in_ok-place.ensures.ok.0 c.in_ok-place.ensures.ok.1 c.len-first.ensures
