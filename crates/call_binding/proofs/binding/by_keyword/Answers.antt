use Rattle.std.proofs.Common.{◌≡◌, ◌+◌, ◌<◌, length, Some, arith}
use Rattle.scope_rules.specs.Nodes.{is_number}
use Rattle.call_binding.specs.Rule.{target}
use Rattle.call_binding.proofs.ListLaws.{position_within}
use Rattle.call_binding.proofs.binding.by_keyword.Goals as goal

pub overflow_add-result : goal.overflow_add-result
overflow_add-result c =
    let low = position_within (λ x. is_number (target c.args.signature.now.params x) c.args.i) c.args.call.now.keywords (Some c.in-Some.j) c.in-Some.ensures in
    omega (arith, c.positionals.ensures.small)

pub overflow_cast-result : goal.overflow_cast-result
overflow_cast-result c =
    let low = position_within (λ x. is_number (target c.args.signature.now.params x) c.args.i) c.args.call.now.keywords (Some c.in-Some.j) c.in-Some.ensures in
    omega (arith, c.positionals.ensures.small)
