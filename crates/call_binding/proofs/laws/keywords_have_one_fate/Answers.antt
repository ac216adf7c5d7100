use Rattle.call_binding.specs.Fates.{key_fate_of}
use Rattle.call_binding.proofs.KeyLaws.{one_key_fate, is_key_fate}
use Rattle.call_binding.proofs.laws.keywords_have_one_fate.Goals as goal

pub returns : goal.returns
returns c = λ f a j low. record { fate = key_fate_of f a j; is = is_key_fate f a j; only = one_key_fate f a j }
