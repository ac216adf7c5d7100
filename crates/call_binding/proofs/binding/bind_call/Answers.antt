use Rattle.call_binding.proofs.KeyLaws.{is_binding, one_binding}
use Rattle.call_binding.proofs.binding.bind_call.Goals as goal

pub returns-clause-binding : goal.returns-clause-binding
returns-clause-binding c = is_binding c.args.signature.now c.args.call.now c.requires

pub returns-clause-only : goal.returns-clause-only
returns-clause-only c = one_binding c.args.signature.now c.args.call.now
