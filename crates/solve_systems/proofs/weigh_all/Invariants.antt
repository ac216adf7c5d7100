use Rattle.std.proofs.Common.{◌≡◌}
use Rattle.solve_systems.proofs.weigh_all.Given as goal

abbrev pub invariant-loop-var : goal.invariant-loop-var
invariant-loop-var g l = l.solver.equations ≡ l.initial.solver.equations
