use Rattle.std.proofs.Common.{◌≡◌, length}
use Rattle.check_basic.specs.LineRules.{without_blanks}
use Rattle.check_basic.proofs.rules.without_blanks.Given as goal

abbrev pub invariant-loop-rest : goal.invariant-loop-rest
invariant-loop-rest l = without_blanks l.rest ≡ without_blanks l.line

abbrev pub decreases-loop-rest : goal.decreases-loop-rest
decreases-loop-rest l = length l.rest
