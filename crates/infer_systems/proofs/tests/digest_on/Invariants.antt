use Rattle.std.proofs.Common.{◌≡◌}
use Rattle.infer_systems.proofs.tests.digest_on.Given as goal

abbrev pub invariant-loop-var : goal.invariant-loop-var
invariant-loop-var g l = l.solver.equations ≡ l.initial.solver.equations
