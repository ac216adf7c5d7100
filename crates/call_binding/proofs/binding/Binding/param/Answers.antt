use Rattle.call_binding.proofs.KeyLaws.{param_given, param_counted}
use Rattle.call_binding.proofs.binding.Binding.param.Goals as goal

pub param_fate-requires : goal.param_fate-requires
param_fate-requires c = param_counted c.self.inside.signature.now c.self.inside.call.now c.args.self.now c.args.i c.self.view_is c.requires

pub returns : goal.returns
returns c =
    param_given c.self.inside.signature.now c.self.inside.call.now c.args.self.now c.args.i c.param_fate.result c.self.view_is
    (param_counted c.self.inside.signature.now c.self.inside.call.now c.args.self.now c.args.i c.self.view_is c.requires) c.param_fate.ensures
