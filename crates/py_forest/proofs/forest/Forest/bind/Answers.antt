use Rattle.std.proofs.Common.{◌<◌, length, sym, ◌∙◌, arith}
use Rattle.py_forest.specs.Forests.{trees}
use Rattle.py_forest.proofs.ChangeLaws.{bound_first_is}
use Rattle.py_forest.proofs.forest.Forest.bind.Goals as goal

pub returns-in_ok-bind_at-clause-ok : goal.returns-in_ok-bind_at-clause-ok
returns-in_ok-bind_at-clause-ok c =
    let low : c.args.mark < length (trees c.args.self.now) = omega (arith, c.if-mark-len.true, c.len.ensures) in
    λ ts. c.in_ok-bind_at.ensures.ok ∙ sym (bound_first_is ts (trees c.args.self.now) c.args.mark low)
