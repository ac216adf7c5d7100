use Rattle.std.proofs.Common.{◌≡◌, length}
use Rattle.py_source.specs.Coding.{encoding_in}
use Rattle.py_source.proofs.coding.encoding_in.Given as goal

abbrev pub invariant-loop-rest : goal.invariant-loop-rest
invariant-loop-rest l = encoding_in l.rest ≡ encoding_in l.comment

abbrev pub decreases-loop-rest : goal.decreases-loop-rest
decreases-loop-rest l = length l.rest
