use Rattle.std.proofs.Common.{◌≡◌, ◌<◌, length, Some, arith}
use Rattle.call_binding.specs.Parameters.{is_var_keyword}
use Rattle.call_binding.proofs.ListLaws.{position_within}
use Rattle.call_binding.proofs.binding.free_fate.Goals as goal

pub overflow_cast-result : goal.overflow_cast-result
overflow_cast-result c =
    let low = position_within (λ p. is_var_keyword p.kind) c.args.signature.now.params (Some c.in-Some.rest) c.in-Some.ensures in
    omega arith
