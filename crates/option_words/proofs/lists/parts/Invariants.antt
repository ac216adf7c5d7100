use Rattle.std.proofs.Common.{◌≡◌, filter, map}
use Rattle.option_words.specs.Values.{is_filled, trimmed}
use Rattle.option_words.proofs.lists.parts.Given as goal

abbrev pub invariant-loop-part : goal.invariant-loop-part
invariant-loop-part l = l.parts ≡ filter is_filled (map trimmed (map (λ x. x.now) l.yielded))
