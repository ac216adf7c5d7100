-- At the end all but the last are bound.
use Rattle.std.proofs.Common.{◌-◌, ◌≤◌, length, sym, arith}
use Rattle.py_forest.specs.Forests.{trees}
use Rattle.parse_statement.proofs.TargetLaws.{before_last_end}
use Rattle.parse_statement.proofs.targets.bind_before_last.Goals as goal

pub returns-clause-ok : goal.returns-clause-ok
returns-clause-ok c =
    let many = c.loop-place.invariant.many in
    let l : length (trees c.loop-place.forest) - 1 ≤ c.loop-place.place = grind arith in
    sym (before_last_end (trees c.loop-place.forest) _ c.loop-place.place c.loop-place.invariant.all l)
