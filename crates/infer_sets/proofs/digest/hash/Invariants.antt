use Rattle.std.proofs.Common.{◌≡◌, take}
use Rattle.infer_sets.specs.Digest.{hash}
use Rattle.infer_sets.proofs.digest.hash.Given as goal

abbrev pub invariant-loop-value : goal.invariant-loop-value
invariant-loop-value l = l.hash ≡ hash (take l.value-index l.fn.values)
