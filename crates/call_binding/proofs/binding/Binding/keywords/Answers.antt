use Rattle.std.proofs.Common.{◌∙◌}
use Rattle.call_binding.proofs.KeyLaws.{keywords_seen}
use Rattle.call_binding.proofs.binding.Binding.keywords.Goals as goal

pub returns : goal.returns
returns c = c.keywords.ensures ∙ keywords_seen c.self.inside.signature.now c.self.inside.call.now c.args.self.now c.self.view_is
