use Rattle.call_binding.specs.Fates.{fates_of}
use Rattle.call_binding.proofs.KeyLaws.{is_binding, one_binding}
use Rattle.call_binding.proofs.laws.calls_have_one_binding.Goals as goal

pub returns-clause-one : goal.returns-clause-one
returns-clause-one c = λ f a plain. record { binding = fates_of f a; is = is_binding f a plain; only = one_binding f a }

pub returns-clause-computed : goal.returns-clause-computed
returns-clause-computed c = is_binding
