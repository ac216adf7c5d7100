use Rattle.std.proofs.Common.{◌≡◌, min, take}
use Rattle.option_words.specs.Values.{number_of}
use Rattle.option_words.proofs.value.number_up_to_bound.Given as goal

abbrev pub invariant-loop-c : goal.invariant-loop-c
invariant-loop-c l = l.number ≡ min (number_of (take l.c-index l.digits)) 10000000
