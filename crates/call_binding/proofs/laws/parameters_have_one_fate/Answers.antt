use Rattle.call_binding.proofs.FateLaws.{one_param_fate, is_param_fate}
use Rattle.call_binding.specs.Fates.{param_fate_of}
use Rattle.call_binding.proofs.laws.parameters_have_one_fate.Goals as goal

pub returns : goal.returns
returns c = λ f a i low. record {
  fate = param_fate_of f a i;
  is = is_param_fate f a i;
  only = λ other h. one_param_fate f a i other (param_fate_of f a i) h (is_param_fate f a i);
}
