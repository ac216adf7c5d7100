use Rattle.std.proofs.Common.{◌∙◌}
use Rattle.call_binding.proofs.KeyLaws.{params_seen}
use Rattle.call_binding.proofs.binding.Binding.params.Goals as goal

pub returns : goal.returns
returns c = c.params.ensures ∙ params_seen c.self.inside.signature.now c.self.inside.call.now c.args.self.now c.self.view_is
