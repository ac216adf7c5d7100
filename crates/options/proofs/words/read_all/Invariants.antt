use Rattle.std.proofs.Common.{◌≡◌, length}
use Rattle.options.specs.Behind.{behind}
use Rattle.options.specs.Lines.{said_by}
use Rattle.options.proofs.words.read_all.Given as goal

abbrev pub invariant-loop-rest : goal.invariant-loop-rest
invariant-loop-rest l = said_by l.words ≡ behind l.said (said_by l.rest)

abbrev pub decreases-loop-rest : goal.decreases-loop-rest
decreases-loop-rest l = length l.rest
