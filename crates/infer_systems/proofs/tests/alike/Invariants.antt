use Rattle.std.proofs.Common.{◌≡◌}
use Rattle.infer_systems.proofs.tests.alike.Given as goal

abbrev pub invariant-loop-var : goal.invariant-loop-var
invariant-loop-var g l = l.solver.equations ≡ l.fn.eqs
