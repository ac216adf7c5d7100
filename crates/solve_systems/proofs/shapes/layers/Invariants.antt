use Rattle.std.proofs.Common.{◌<◌, ◌≤◌}
use Rattle.solve_systems.proofs.shapes.layers.Given as goal

abbrev pub invariant-loop-var : goal.invariant-loop-var
invariant-loop-var l = (0 < l.width) × (l.width ≤ 1000)
