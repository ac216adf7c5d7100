use Rattle.std.proofs.Common.{◌≡◌, ◌∙◌, sym, Some}
use Rattle.call_binding.specs.Parameters.{may_take}
use Rattle.call_binding.proofs.ListLaws.{position_within}
use Rattle.call_binding.proofs.binding.key_fate.Goals as goal

pub taken_fate-requires-clause-param : goal.taken_fate-requires-clause-param
taken_fate-requires-clause-param c = position_within (may_take c.keyword.result.now) c.args.signature.now.params (Some c.in-Some.i) c.in-Some.ensures
