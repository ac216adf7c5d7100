use Rattle.call_binding.proofs.KeyLaws.{keyword_given, keyword_counted}
use Rattle.call_binding.proofs.binding.Binding.keyword.Goals as goal

pub key_fate-requires : goal.key_fate-requires
key_fate-requires c = keyword_counted c.self.inside.signature.now c.self.inside.call.now c.args.self.now c.args.j c.self.view_is c.requires

pub returns : goal.returns
returns c =
    keyword_given c.self.inside.signature.now c.self.inside.call.now c.args.self.now c.args.j c.key_fate.result c.self.view_is
    (keyword_counted c.self.inside.signature.now c.self.inside.call.now c.args.self.now c.args.j c.self.view_is c.requires) c.key_fate.ensures
